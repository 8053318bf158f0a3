-- The loops over the headers that were found, and over the entries that keep their slot.
use Rattle.std.proofs.Common.{◌≡◌, ℕ, ◌+◌, ◌-◌, ◌<◌, ◌≤◌, Bool, true, false, cond, not, ◌&&◌, ◌||◌, List, [], ◌∷◌, ◌++◌, length, map, take, drop, get_or, eqb, refl, ap, sym, ◌∙◌, arith, eqb-true, ne_eqb, length-append, length-drop, length-take-le, take-take, drop-drop, drop_at}
use lib.Seq.{paste, take-append-add, take-append-le, drop-append-add, take-paste, drop-paste, take-add}
use Rattle.std.proofs.lemmas.List.{drop-take, take-append-drop, nil_from_length}
use mathlib.Core.Bool.{and-true, and-false}
use borrow.Author.Tests.{eqb-false}
use Rattle.std.proofs.Math.Seq.{take-length}
use Rattle.std.specs.List.{filter, sum_by, copy_within}
use Rattle.std.proofs.lemmas.List.Sums.{sum_by-cons}
use Rattle.matching.specs.declared.layout.Entry.{Entry}
use Rattle.state.specs.Lists.{every, any, select, select_not, sum_of}
use Rattle.state.specs.View.{EventQueue, queue_of}
use Rattle.state.specs.Soundness.{names}
use Rattle.state.specs.Events.{Issued, overflow_event, auto_free_event, post, post_all}
use Rattle.state.specs.Parts.{Fits, Holds, QueueHolds}
use Rattle.state.specs.declared.layout.HeldEntry.{HeldEntry}
use Rattle.state.specs.declared.layout.Header.{Header}
use Rattle.state.specs.declared.layout.Event.{Event}
use Rattle.state.specs.declared.layout.Queue.{Queue}
use Rattle.state.proofs.ListLaws.{both}
use Rattle.state.proofs.PostLaws.{issued-posted, then-posted}
use Rattle.early.proofs.PostingLaws.{Posting, posting-more}
use Rattle.early.specs.Walk.{fits_header}
use Rattle.early.specs.HandOut.{freed_by, hand_out_event, hand_out_events}
use Rattle.early.specs.Parts.{is_freed, free_events}

-- ## Selecting

-- where all pass, all are selected
pub select-all : {A : Type 0} (p : A → Bool) (l : List A) → every p l ≡ true → select p l ≡ l
select-all p [] e = refl
select-all p (x ∷ l) e =
    let s = both (p x) (every p l) e in
    rw s.0 (ap (λ (r : List _). x ∷ r) (select-all p l s.1))

-- two tests that say the same select the same
select-same : {A : Type 0} (p q : A → Bool) (l : List A) → ((x : A) → p x ≡ q x) → select p l ≡ select q l
select-same p q [] same = refl
select-same p q (x ∷ l) same = rw (same x, select-same p q l same)

-- the library's words for what is selected, and for a sum, say the same
pub filter-select : {A : Type 0} (p : A → Bool) (l : List A) → filter p l ≡ select p l
filter-select p [] = refl
filter-select p (x ∷ l) = rw (filter-select p l)

pub sum_of-by : {A : Type 0} (f : A → ℕ) (l : List A) → sum_by f l ≡ sum_of f l
sum_of-by f [] = refl
sum_of-by f (x ∷ l) = sum_by-cons f x l ∙ ap (λ (n : ℕ). f x + n) (sum_of-by f l)

pub filter-select_not : {A : Type 0} (p : A → Bool) (l : List A) → filter (λ x. not (p x)) l ≡ select_not p l
filter-select_not p [] = refl
filter-select_not p (x ∷ l) = ap (λ (r : List _). cond (not (p x)) (x ∷ r) r) (filter-select_not p l) ∙ by (p x)
  where
    by : (b : Bool) → cond (not b) (x ∷ select_not p l) (select_not p l) ≡ cond b (select_not p l) (x ∷ select_not p l)
    by true = refl
    by false = refl

-- a sum over those selected, as one over all
pub sum_of-selected : {A : Type 0} (p : A → Bool) (f : A → ℕ) (l : List A) → sum_by (λ x. cond (p x) (f x) 0) l ≡ sum_of f (select p l)
sum_of-selected p f [] = refl
sum_of-selected p f (x ∷ l) =
    sum_by-cons (λ y. cond (p y) (f y) 0) x l ∙ ap (λ (n : ℕ). cond (p x) (f x) 0 + n) (sum_of-selected p f l) ∙ by (p x)
  where
    by : (b : Bool) → cond b (f x) 0 + sum_of f (select p l) ≡ sum_of f (cond b (x ∷ select p l) (select p l))
    by true = refl
    by false = omega arith

-- some of those selected, or of the others, passes
pub any-selected : {A : Type 0} (p q : A → Bool) (l : List A) → any p (select q l) ≡ any (λ x. p x && q x) l
any-selected p q [] = refl
any-selected p q (x ∷ l) = by (q x) ∙ ap (λ (b : Bool). p x && q x || b) (any-selected p q l)
  where
    by : (b : Bool) → any p (cond b (x ∷ select q l) (select q l)) ≡ (p x && b || any p (select q l))
    by true = rw (and-true (p x)) refl
    by false = rw (and-false (p x)) refl

pub any-unselected : {A : Type 0} (p q : A → Bool) (l : List A) → any p (select_not q l) ≡ any (λ x. p x && not (q x)) l
any-unselected p q [] = refl
any-unselected p q (x ∷ l) = by (q x) ∙ ap (λ (b : Bool). p x && not (q x) || b) (any-unselected p q l)
  where
    by : (b : Bool) → any p (cond b (select_not q l) (x ∷ select_not q l)) ≡ (p x && not b || any p (select_not q l))
    by true = rw (and-false (p x)) refl
    by false = rw (and-true (p x)) refl

-- ## The entries that keep their slot

-- those of the first `count` that pass stand at the front
pub front-kept : {A : Type 0} {size : ℕ} (s part : List A) (p : A → Bool) (count kept : ℕ)
    → Fits size s count
    → length part ≡ length (take count s)
    → kept ≤ length (take count s)
    → take kept part ≡ select p (take count s)
    → Holds size (part ++ drop count s) kept (select p (take count s))
front-kept s part p count kept fits same few front =
    let before : length (take count s) ≡ count = length-take-le count s (omega (arith, fits.room, fits.long)) in
    record {
      held = take-append-le kept part (drop count s) (omega (arith, same, few)) ∙ front;
      fits = record {
        room = omega (arith, few, before, fits.room);
        long = length-append part (drop count s) ∙ omega (arith, same, before, length-drop count s, fits.room, fits.long);
      };
    }

-- ## The headers that are left

-- to select those that do not pass is to leave those that do
pub select-not : {A : Type 0} (p : A → Bool) (l : List A) → select (λ x. not (p x)) l ≡ select_not p l
select-not p l = sym (filter-select (λ x. not (p x)) l) ∙ filter-select_not p l

-- elements are copied to where they stand
copied-same : {A : Type 0} (d : List A) (at n : ℕ) → at + n ≤ length d → paste d at (drop at d) n ≡ d
copied-same d at n h =
    let few : n ≤ length (drop at d) = omega (arith, length-drop at d) in
    sym (take-append-drop (at + n) (paste d at (drop at d) n))
    ∙ rw (take-paste d at (drop at d) n (omega arith) few, drop-paste d at (drop at d) n (omega arith) few, ← take-add at n d)
    (take-append-drop (at + n) d)

-- where the part is empty, no header moves
pub none-moved : {A : Type 0} (s part s' : List A) (first end count kept : ℕ)
    → first ≡ end
    → end ≤ count
    → count ≤ length s
    → length part ≡ length (take (end - first) (drop first s))
    → kept ≤ length (take (end - first) (drop first s))
    → s' ≡ copy_within (take first s ++ (part ++ drop (end - first) (drop first s))) end count (first + kept)
    → (s' ≡ s) × (count - (end - (first + kept)) ≡ count)
none-moved s part s' first end count kept e within room same few after =
    let zero : end - first ≡ 0 = omega arith in
    let middle : length (take (end - first) (drop first s)) ≡ 0 = ap (λ (n : ℕ). length (take n (drop first s))) zero in
    let none : part ≡ [] = nil_from_length part (same ∙ middle) in
    let at : first + kept ≡ end = omega (arith, middle) in
    let whole : take first s ++ (part ++ drop (end - first) (drop first s)) ≡ s = rw (none, zero) (take-append-drop first s) in
    (after ∙ rw (whole, at) (copied-same s end (count - end) (omega arith)), omega (arith, at))

-- those of a part that do not pass stand at its front, and those after it move up behind them
pub headers-left : {A : Type 0} {size : ℕ} (s part s' : List A) (p : A → Bool) (first end count kept : ℕ)
    → Fits size s count
    → first ≤ end
    → end ≤ count
    → length part ≡ length (take (end - first) (drop first s))
    → kept ≤ length (take (end - first) (drop first s))
    → take kept part ≡ select_not p (take (end - first) (drop first s))
    → s' ≡ copy_within (take first s ++ (part ++ drop (end - first) (drop first s))) end count (first + kept)
    → length s' ≡ length (take first s ++ (part ++ drop (end - first) (drop first s)))
    → Holds size s' (count - (end - (first + kept)))
    (take first (take count s) ++ select_not p (take (end - first) (drop first (take count s))) ++ drop end (take count s))
headers-left {A} {size} s part s' p first end count kept fits ordered within same few front after long =
    let room : count ≤ size = fits.room in
    let full : length s ≡ size = fits.long in
    let before : length (take first s) ≡ first = length-take-le first s (omega arith) in
    let middle : length (take (end - first) (drop first s)) ≡ end - first = length-take-le (end - first) (drop first s) (omega (arith, length-drop first s)) in
    let behind : List A = drop (end - first) (drop first s) in
    let later : behind ≡ drop end s = drop-drop (end - first) first s ∙ ap (λ (n : ℕ). drop n s) (omega arith) in
    let all : List A = take first s ++ (part ++ behind) in
    let whole : length all ≡ size =
    length-append (take first s) (part ++ behind) ∙ omega (arith, before, middle, same, length-append part behind, ap length later, length-drop end s) in
    let front-kept : take (first + kept) all ≡ take first s ++ take kept part =
    ap (λ (n : ℕ). take (n + kept) all) (sym before) ∙ take-append-add (take first s) (part ++ behind) kept
    ∙ ap (λ (l : List A). take first s ++ l) (take-append-le kept part behind (omega (arith, same))) in
    let after-kept : drop end all ≡ drop end s =
    ap (λ (n : ℕ). drop n all) (omega (arith, before)) ∙ drop-append-add (take first s) (part ++ behind) (end - first)
    ∙ drop_at part behind (end - first) (same ∙ middle) ∙ later in
    let held : take (first + kept + (count - end)) s' ≡ take first s ++ take kept part ++ take (count - end) (drop end s) =
    ap (take (first + kept + (count - end))) after
    ∙ take-paste all (first + kept) (drop end all) (count - end) (omega (arith, whole, middle)) (omega (arith, ap length after-kept, length-drop end s))
    ∙ rw (front-kept, after-kept) refl in
    let part-in : take (end - first) (drop first (take count s)) ≡ take (end - first) (drop first s) =
    ap (λ (n : ℕ). take (end - first) (drop first (take n s))) (omega arith) ∙ ap (take (end - first)) (drop-take first (count - first) s)
    ∙ take-take (end - first) (count - first) (drop first s) (omega arith) in
    let rest-in : drop end (take count s) ≡ take (count - end) (drop end s) =
    ap (λ (n : ℕ). drop end (take n s)) (omega arith) ∙ drop-take end (count - end) s in
    let count-is : count - (end - (first + kept)) ≡ first + kept + (count - end) = omega (arith, middle) in
    record {
      held = rw (count-is, held, front, take-take first count s (omega arith), part-in, rest-in) refl;
      fits = record { room = omega (arith, middle); long = long ∙ whole };
    }

-- ## AUTO_FREE

module _ (h : Header) (others : List Header) where
  -- a header is a retired entry's last where no other header names its handle
  freed-is : (x : HeldEntry) → freed_by h others x ≡ (is_freed h.handle x && not (any (names h.handle) others))
  freed-is x = by (eqb x.handle h.handle) refl
    where
      by : (same : Bool) → eqb x.handle h.handle ≡ same → freed_by h others x ≡ (is_freed h.handle x && not (any (names h.handle) others))
      by true e =
          let own : x.handle ≡ h.handle = eqb-true x.handle h.handle e in
          rw own
      by false e =
          let other : eqb h.handle x.handle ≡ false = ne_eqb h.handle x.handle (λ p. eqb-false x.handle h.handle e (sym p)) in
          rw (e, other, and-false)

  -- so its AUTO_FREE is that of the entry with this handle,
  frees : any (names h.handle) others ≡ false → (l : List HeldEntry)
      → free_events h.handle l ≡ map auto_free_event (select (freed_by h others) l)
  frees none l =
      ap (map auto_free_event)
      (select-same (is_freed h.handle) (freed_by h others) l (λ x. sym (freed-is x ∙ rw (none, and-true (is_freed h.handle x)) refl)))

  -- or no entry is freed
  frees-none : any (names h.handle) others ≡ true → (l : List HeldEntry) → select (freed_by h others) l ≡ []
  frees-none some [] = refl
  frees-none some (x ∷ l) = rw (freed-is x, some, and-false (is_freed h.handle x)) (frees-none some l)

-- ## A header that is handed out

-- the headers behind place i
behind : (l : List Header) (i : ℕ) → take (length l - (i + 1)) (drop (i + 1) l) ≡ drop (i + 1) l
behind l i = rw (← length-drop (i + 1) l) (take-length (drop (i + 1) l))

module _ (e : Entry) (owner : ℕ) (entries : List HeldEntry) (h : Header) (others : List Header) (q q' : Queue) (event : Event) (waits : Bool)
    (made : event ≡ (overflow_event h e owner).event)
    (posted : QueueHolds q' (post (queue_of q) (record { event = event; options = e.options })))
    (is : waits ≡ any (names h.handle) others) where
  -- it is its entry's last: its overflow event is made and posted, and then AUTO_FREE
  pub handed-last : (q'' : Queue) → waits ≡ false
      → QueueHolds q'' (post_all (queue_of q') (free_events h.handle entries))
      → QueueHolds q'' (post_all (queue_of q) (hand_out_event e owner entries h others))
  handed-last q'' none freed =
      let first : QueueHolds q' (post_all (queue_of q) (overflow_event h e owner ∷ [])) =
      issued-posted q' (queue_of q) event (overflow_event h e owner) made posted in
      let then : QueueHolds q'' (post_all (queue_of q') (map auto_free_event (select (freed_by h others) entries))) =
      rw (← frees h others (sym is ∙ none) entries) freed in
      then-posted q' q'' (queue_of q) (overflow_event h e owner ∷ []) (map auto_free_event (select (freed_by h others) entries)) first then

  -- another still waits in its entry: its overflow event is all
  pub handed-more : waits ≡ true → QueueHolds q' (post_all (queue_of q) (hand_out_event e owner entries h others))
  handed-more some =
      let alone : hand_out_event e owner entries h others ≡ (overflow_event h e owner ∷ []) =
      ap (λ (l : List HeldEntry). overflow_event h e owner ∷ map auto_free_event l) (frees-none h others (sym is ∙ some) entries) in
      rw alone (issued-posted q' (queue_of q) event (overflow_event h e owner) made posted)

-- ## All headers found

module _ (e : Entry) (owner : ℕ) (entries : List HeldEntry) (left : List Header) where
  -- what is posted for those of a list that fit
  abbrev pub handing : List Header → List Issued
  handing l = hand_out_events e owner entries left (select (fits_header e) l)

  module _ (part : List Header) (i : ℕ) (d : Header) (v : EventQueue) (q : Queue) (p : Posting handing part v q i) (inside : i < length part) where
    -- a turn of the loop over them, at place i: the header there does not fit
    pub handing-past : fits_header e (get_or part i d) ≡ false → Posting handing part v q (i + 1)
    handing-past misses = posting-more handing p d inside q [] (rw misses refl) (record { held = refl; fits = p.queue })

    -- it does, and is its entry's last: its overflow event is made and posted, and then AUTO_FREE
    pub handing-last : (q' q'' : Queue) (event : Event) (waits : Bool)
        → fits_header e (get_or part i d) ≡ true
        → event ≡ (overflow_event (get_or part i d) e owner).event
        → QueueHolds q' (post (queue_of q) (record { event = event; options = e.options }))
        → waits ≡ any (names (get_or part i d).handle) (select (fits_header e) (take (length part - (i + 1)) (drop (i + 1) part)) ++ left)
        → waits ≡ false
        → QueueHolds q'' (post_all (queue_of q') (free_events (get_or part i d).handle entries))
        → Posting handing part v q'' (i + 1)
    handing-last q' q'' event waits fits made posted is none freed =
        let h = get_or part i d in
        let others = select (fits_header e) (drop (i + 1) part) ++ left in
        posting-more handing p d inside q'' (hand_out_event e owner entries h others) (rw fits refl)
        (handed-last e owner entries h others q q' event waits made posted (rw (behind part i) at is) q'' none freed)

    -- it does, and another still waits in its entry: its overflow event is all
    pub handing-more : (q' : Queue) (event : Event) (waits : Bool)
        → fits_header e (get_or part i d) ≡ true
        → event ≡ (overflow_event (get_or part i d) e owner).event
        → QueueHolds q' (post (queue_of q) (record { event = event; options = e.options }))
        → waits ≡ any (names (get_or part i d).handle) (select (fits_header e) (take (length part - (i + 1)) (drop (i + 1) part)) ++ left)
        → waits ≡ true
        → Posting handing part v q' (i + 1)
    handing-more q' event waits fits made posted is some =
        let h = get_or part i d in
        let others = select (fits_header e) (drop (i + 1) part) ++ left in
        posting-more handing p d inside q' (hand_out_event e owner entries h others) (rw fits refl)
        (handed-more e owner entries h others q q' event waits made posted (rw (behind part i) at is) some)

-- ## Any headers found and left

module _ (e : Entry) (owner : ℕ) (entries : List HeldEntry) (left found : List Header) (i : ℕ) (d : Header) (v : EventQueue) (q : Queue)
    (p : Posting (hand_out_events e owner entries left) found v q i) (inside : i < length found)
    (q' : Queue) (event : Event) (waits : Bool)
    (made : event ≡ (overflow_event (get_or found i d) e owner).event)
    (posted : QueueHolds q' (post (queue_of q) (record { event = event; options = e.options })))
    (is : waits ≡ any (names (get_or found i d).handle) (take (length found - (i + 1)) (drop (i + 1) found) ++ left)) where
  -- a turn of the loop over them, at place i: the header there is its entry's last
  pub lists-last : (q'' : Queue) → waits ≡ false
      → QueueHolds q'' (post_all (queue_of q') (free_events (get_or found i d).handle entries))
      → Posting (hand_out_events e owner entries left) found v q'' (i + 1)
  lists-last q'' none freed =
      let h = get_or found i d in
      let others = drop (i + 1) found ++ left in
      posting-more (hand_out_events e owner entries left) p d inside q'' (hand_out_event e owner entries h others) refl
      (handed-last e owner entries h others q q' event waits made posted (rw (behind found i) at is) q'' none freed)

  -- another still waits in its entry
  pub lists-more : waits ≡ true → Posting (hand_out_events e owner entries left) found v q' (i + 1)
  lists-more some =
      let h = get_or found i d in
      let others = drop (i + 1) found ++ left in
      posting-more (hand_out_events e owner entries left) p d inside q' (hand_out_event e owner entries h others) refl
      (handed-more e owner entries h others q q' event waits made posted (rw (behind found i) at is) some)
