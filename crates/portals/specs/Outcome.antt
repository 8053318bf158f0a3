-- What a call leaves: its answer, the state, and the buffer that it was lent.
use Rattle.std.specs.Prelude.{List}
use Rattle.matching.specs.declared.refusals.Refusal.{Refusal}
use Rattle.state.specs.View.{View}
use Rattle.state.specs.Soundness.{Seen, sound, unsound}
use Rattle.portals.specs.Refusals.{Condition, unless_refused}
use Rattle.portals.specs.Answers.{Answer, refused}

-- S: how the state is given, as a view or as seen; B: the buffer that may be written, a put's memory or a get's reply
pub record Outcome (S : Type 0) (B : Type 0) : Type 0 where
  pub answer : Answer
  pub state : S
  pub buffer : B

-- a refusal "changes nothing"
abbrev pub refusal : {B : Type 0} → View → B → Refusal → Outcome View B
refusal v b r = record { answer = refused r; state = v; buffer = b }

-- a call on a sound state: its refusals in order, or else what it does
abbrev pub guarded : {B : Type 0} → View → B → List Condition → Outcome View B → Outcome View B
guarded v b tests does = unless_refused (refusal v b) tests does

-- a call that only reads
abbrev pub guarded_read : List Condition → Answer → Answer
guarded_read tests answer = unless_refused refused tests answer

-- a call on any state: BAD_STATE: "the state is not sound"
abbrev pub unless_unsound : {B : Type 0} → (View → Outcome View B) → Seen → B → Outcome Seen B
unless_unsound call (sound v) b =
    record { answer = (call v).answer; state = sound (call v).state; buffer = (call v).buffer }
unless_unsound call (unsound t) b = record { answer = refused Refusal.BadState; state = unsound t; buffer = b }

abbrev pub read_unless_unsound : (View → Answer) → Seen → Answer
read_unless_unsound call (sound v) = call v
read_unless_unsound call (unsound t) = refused Refusal.BadState
