-- Every impostor's list is refused: the ledger has another answer at the first wrong line, or other bytes.
use mathlib.Core.Path.{◌≡◌, refl}
use mathlib.Core.Bool.{true≢false}
use mathlib.Core.List.{List, [], ◌∷◌}
use Prim.Native.Nat.{ℕ}
use native.Mathlib.Omega.{arith}
use Rattle.matching.specs.Entry.{bad_entry_argument}
use Rattle.matching.specs.Request.{bad_request_argument, offset_used, available, bits_agree, allows_length, matches, verdict_on, accepted, place, local_after, unlinks, ack_given}
use Rattle.matching.specs.EarlyMessages.{takes_headers, fits}
use Rattle.requests.specs.Plan.{message}
use Rattle.portals.specs.Answers.{REFUSED, LINKED, TAKEN, DONE, SEARCHED, PRIORITY, OVERFLOW, DROPPED, COUNTER, REGISTER}
use Rattle.portals.specs.Calls.{append}
use Rattle.conservation.specs.Ledger.{chosen, add_event}
use Rattle.conservation.specs.Bytes.{Stay}
use Rattle.conservation.specs.Example.{overflow_entry, taking_entry, abc}
use Rattle.conservation.specs.Impostors.{first, put_abc, IsRefused, ImpostorsRefused, memory_untouched}

-- the bytes of the message are not in a memory of zeros
untouched-stay : Stay memory_untouched abc
unfolding chosen matches bits_agree allows_length takes_headers message accepted available offset_used place local_after unlinks add_event fits verdict_on
untouched-stay = record {
  earlier = first (append overflow_entry) (LINKED 1) ∷ [];
  arrival = first put_abc (OVERFLOW 3 0 1);
  between = [];
  compared = first (append taking_entry) TAKEN;
  later = [];
  split = refl;
  arrives = refl;
}

untouched-refused : IsRefused memory_untouched
unfolding untouched-stay chosen matches bits_agree allows_length takes_headers message accepted available offset_used place local_after unlinks add_event fits verdict_on
untouched-refused t m c =
    let e : ◌≡◌ {A = List ℕ} (0 ∷ 0 ∷ 0 ∷ []) (97 ∷ 98 ∷ 99 ∷ []) = c.bytes abc untouched-stay refl refl in
    grind arith

-- the others have another answer than the ledger's, or are refused for a memory of the right length: here the two answers, at the line
-- where they differ
pub impostors_refused : ImpostorsRefused
unfolding bad_entry_argument bad_request_argument chosen matches bits_agree allows_length available offset_used verdict_on takes_headers accepted ack_given place message local_after unlinks fits
impostors_refused = (
  λ t m c. let e : DROPPED 1 ≡ OVERFLOW 3 0 1 = c.each.1.0.answer in grind arith,
  (
    λ t m c. let e : REFUSED 4 ≡ LINKED 1 = c.each.0.answer in grind arith,
    (
      λ t m c. let e : PRIORITY 0 0 0 ≡ OVERFLOW 3 0 1 = c.each.1.0.answer in grind arith,
      (
        λ t m c. let e : SEARCHED 0 ≡ SEARCHED 1 = c.each.1.1.0.answer in grind arith,
        (
          untouched-refused,
          (
            λ t m c. let e : OVERFLOW 3 0 1 ≡ OVERFLOW 3 3 1 = c.each.1.1.0.answer in grind arith,
            (
              λ t m c. let e : LINKED 1 ≡ LINKED 2 = c.each.1.0.answer in grind arith,
              (
                λ t m c. let e : SEARCHED 1 ≡ SEARCHED 2 = c.each.1.1.1.1.0.answer in grind arith,
                (
                  λ t m c. let e : TAKEN ≡ LINKED 2 = c.each.1.1.1.0.answer in grind arith,
                  (
                    λ t m c. let e : REGISTER 1 ≡ REGISTER 0 = c.each.0.answer in grind arith,
                    (
                      λ t m c. let e : OVERFLOW 4 0 1 ≡ OVERFLOW 3 0 1 = c.each.1.0.answer in grind arith,
                      (
                        λ t m c. let e : SEARCHED 2 ≡ SEARCHED 1 = c.each.1.1.0.answer in grind arith,
                        (
                          λ t m c. let e : DONE ≡ REFUSED 5 = c.each.1.1.0.answer in grind arith,
                          (
                            λ t m c. let e : REFUSED 3 ≡ COUNTER 0 0 = c.each.0.answer in grind arith,
                            (
                              λ t m c. true≢false c.each.0.answer.0,
                              (
                                λ t m c. let e : COUNTER 1 0 ≡ COUNTER 0 0 = c.each.0.answer in grind arith,
                                tt,
                              ),
                            ),
                          ),
                        ),
                      ),
                    ),
                  ),
                ),
              ),
            ),
          ),
        ),
      ),
    ),
  ),
)
