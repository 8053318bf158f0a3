-- Document 01, "Events", its last paragraph: the calls on counting events and status registers.
use Rattle.std.specs.Prelude.{Bool, ◌||◌, not, cond, List, [], ◌∷◌, ℕ, suc, eqb, leb, length, set, Option, None, Some, Result}
use Rattle.matching.specs.Refusals.{first_bad}
use Rattle.matching.specs.Entry.{is_counter}
use Rattle.matching.specs.declared.refusals.BadArgument.{BadArgument}
use Rattle.state.specs.Counters.{counter_at, increased}
use Rattle.state.specs.Registers.{register_at}
use Rattle.state.specs.Lists.{every}
use Rattle.state.specs.View.{View, with_counters}
use Rattle.state.specs.declared.layout.Counter.{Counter}
use Rattle.state.specs.declared.layout.CounterChange.{CounterChange}
use Rattle.state.specs.declared.layout.CounterTest.{CounterTest}
use Rattle.portals.specs.Refusals.{Condition, good_arguments}
use Rattle.portals.specs.Answers.{Answer, DONE, COUNTER, REGISTER, READY, NOT_READY, reached_answer}
use Rattle.portals.specs.Outcome.{Outcome, guarded, guarded_read}

-- ## The counter calls

-- "another counter than 0 to 15 is ARG_INVALID"
abbrev pub bad_counter_argument : ℕ → Result Unit BadArgument
bad_counter_argument k = first_bad (record { passed = is_counter k; argument = BadArgument.Counter } ∷ [])

abbrev pub counter_tests : ℕ → List Condition
counter_tests k = good_arguments (bad_counter_argument k) ∷ []

abbrev pub counter_done : View → ℕ → Counter → Outcome View Unit
counter_done v k c = record { answer = DONE; state = with_counters v (set v.counters k c); buffer = tt }

-- "Set"
unfoldable pub set_counter : View → CounterChange → Outcome View Unit
set_counter v x =
    guarded v tt (counter_tests x.counter)
    (counter_done v x.counter (record { success = x.success; failure = x.failure }))

-- "increment (both fields, modulo 2^64)"
unfoldable pub increment : View → CounterChange → Outcome View Unit
increment v x =
    guarded v tt (counter_tests x.counter)
    (counter_done v x.counter (increased (counter_at v.counters x.counter) x.success x.failure))

-- "read"
unfoldable pub read_counter : View → ℕ → Answer
read_counter v k =
    guarded_read (counter_tests k) (COUNTER (counter_at v.counters k).success (counter_at v.counters k).failure)

-- "success at least the test"
abbrev pub has_reached : Counter → ℕ → Bool
has_reached c test = leb test c.success

-- "Ready: success at least the test, or failure not 0."
abbrev pub is_ready : Counter → ℕ → Bool
is_ready c test = has_reached c test || not (eqb c.failure 0)

unfoldable pub ready : View → CounterTest → Answer
ready v x =
    guarded_read (counter_tests x.counter) (cond (is_ready (counter_at v.counters x.counter) x.test) READY NOT_READY)

-- ## Poll

-- "Poll, over a list of counters and tests of equal length (else ARG_INVALID)": every counter is tested, whatever is reached
-- before it, and before the lengths: decisions 5 and 32
abbrev pub bad_poll_argument : List ℕ → List ℕ → Result Unit BadArgument
bad_poll_argument ks tests =
    first_bad
    (record { passed = every is_counter ks; argument = BadArgument.Counter }
    ∷ record { passed = eqb (length ks) (length tests); argument = BadArgument.ListLength }
    ∷ [])

-- "the lowest place whose success has reached its test": decision 5; the lists begin at place i
abbrev pub reached_from : List Counter → ℕ → List ℕ → List ℕ → Option ℕ
reached_from counters i [] tests = None
reached_from counters i (k ∷ ks) [] = None
reached_from counters i (k ∷ ks) (test ∷ tests) =
    cond (has_reached (counter_at counters k) test) (Some i) (reached_from counters (suc i) ks tests)

-- the place that is reached, "or NONE_REACHED" (`reached_answer` of Answers.antt)
unfoldable pub poll : View → List ℕ → List ℕ → Answer
poll v ks tests =
    guarded_read (good_arguments (bad_poll_argument ks tests) ∷ [])
    (reached_answer (reached_from v.counters 0 ks tests))

-- ## The registers

-- "A register (0 drop, 1 permission, 2 operation) can be read; another is ARG_INVALID."
abbrev pub bad_register_argument : ℕ → Result Unit BadArgument
bad_register_argument k = first_bad (record { passed = leb k 2; argument = BadArgument.Register } ∷ [])

unfoldable pub read_register : View → ℕ → Answer
read_register v k =
    guarded_read (good_arguments (bad_register_argument k) ∷ [])
    (REGISTER (register_at v.registers k))
