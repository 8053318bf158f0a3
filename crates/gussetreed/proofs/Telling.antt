-- Answers told in numbers.
--     refusals_named: the header's numbers of the refusals are document 01's.
--     read_back_lem: a reply can be read back, so that no two answers are told alike.
--     by-definition, read-by-definition: a call's reply is the answer that its definition gives, told in numbers.
-- Assumes nothing.
use mathlib.Core.Path.{◌≡◌, refl, ap, ◌∙◌}
use mathlib.Core.List.{[], ◌∷◌, map}
use lib.ListN.{get_or}
use Rattle.matching.specs.Refusals.{refusal_number}
use Rattle.matching.specs.declared.refusals.Refusal.TheVariants as Refusal
use Rattle.state.specs.View.{View}
use Rattle.state.specs.Soundness.{seen}
use Rattle.state.specs.declared.layout.Event.{Event}
use Rattle.state.specs.declared.layout.Target.{Target}
use Rattle.portals.specs.Answers.{Answer, REFUSED, MADE, LINKED, TAKEN, DONE, SEARCHED, PRIORITY, OVERFLOW, DROPPED, PERM, OP, EVENT, NONE, COUNTER, REGISTER, READY, NOT_READY, REACHED, NONE_REACHED}
use Rattle.portals.specs.Outcome.{Outcome, unless_unsound, read_unless_unsound}
use Rattle.portals.specs.Promises.{Met, ReadMet}
use Rattle.gussetreed.specs.Replies.{reply_of, event_in, Told}
use Rattle.gussetreed.specs.declared.layout.Reply.{Reply}
use Rattle.gussetreed.specs.declared.layout.TheConstants.{BAD_STATE, BAD_MEMORY, ARG_INVALID, NO_SPACE, IN_USE}

-- ## The header's numbers

pub refusals_named : map refusal_number (Refusal.BadState ∷ Refusal.BadMemory ∷ Refusal.ArgInvalid ∷ Refusal.NoSpace ∷ Refusal.InUse ∷ []) ≡ BAD_STATE ∷ BAD_MEMORY ∷ ARG_INVALID ∷ NO_SPACE ∷ IN_USE ∷ []
refusals_named = refl

-- ## No two answers are told alike

abbrev read_back : Reply → Event → Answer
read_back r e =
    get_or (
    REFUSED r.code
    ∷ MADE
    ∷ LINKED r.value
    ∷ TAKEN
    ∷ DONE
    ∷ SEARCHED r.value
    ∷ PRIORITY r.value r.second r.code
    ∷ OVERFLOW r.value r.second r.code
    ∷ DROPPED r.code
    ∷ PERM r.code
    ∷ OP r.code
    ∷ EVENT e
    ∷ NONE
    ∷ COUNTER r.value r.second
    ∷ REGISTER r.value
    ∷ READY
    ∷ NOT_READY
    ∷ REACHED r.value
    ∷ NONE_REACHED
    ∷ []
    ) r.answer MADE

pub read_back_lem : (a : Answer) → read_back (reply_of a) (event_in a) ≡ a
read_back_lem (REFUSED n) = refl
read_back_lem MADE = refl
read_back_lem (LINKED handle) = refl
read_back_lem TAKEN = refl
read_back_lem DONE = refl
read_back_lem (SEARCHED n) = refl
read_back_lem (PRIORITY length offset ack) = refl
read_back_lem (OVERFLOW length offset ack) = refl
read_back_lem (DROPPED ack) = refl
read_back_lem (PERM ack) = refl
read_back_lem (OP ack) = refl
read_back_lem (EVENT e) = refl
read_back_lem NONE = refl
read_back_lem (COUNTER success failure) = refl
read_back_lem (REGISTER n) = refl
read_back_lem READY = refl
read_back_lem NOT_READY = refl
read_back_lem (REACHED place) = refl
read_back_lem NONE_REACHED = refl

-- ## By the definition

pub by-definition : {A R B : Type 0} (tell : Answer → R) (means : A → Answer) {call : View → Outcome View B} {t t' : Target} {lent left : B} {r : R}
    → Told (λ a. tell (means a)) (λ a. Met call t lent (means a) t' left) r
    → r ≡ tell (unless_unsound call (seen t) lent).answer
by-definition tell means h = h.told ∙ ap (λ o. tell o.answer) h.met.outcome

pub read-by-definition : {A : Type 0} (means : A → Answer) {call : View → Answer} {t : Target} {r : Reply}
    → Told (λ a. reply_of (means a)) (λ a. ReadMet call t (means a)) r
    → r ≡ reply_of (read_unless_unsound call (seen t))
read-by-definition means h = h.told ∙ ap reply_of h.met.outcome
