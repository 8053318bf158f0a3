-- A loop over a list that posts the events of one element after the other.
use Rattle.std.proofs.Common.{◌≡◌, ℕ, ◌+◌, ◌<◌, List, ◌∷◌, ◌++◌, length, get_or, drop, sym, ap, ◌∙◌}
use Rattle.std.proofs.lemmas.List.{drop_more}
use Rattle.state.specs.View.{EventQueue, queue_of}
use Rattle.state.specs.Events.{Issued, post_all}
use Rattle.state.specs.Parts.{QueueFits, QueueHolds}
use Rattle.state.specs.declared.layout.Queue.{Queue}
use Rattle.state.proofs.PostLaws.{post-join}

module _ {A : Type 0} (events : List A → List Issued) where
  -- the loop over l is at place i, and began with a queue that held v: to post the events of all of l to v is to post those of the
  -- elements from place i on to the queue as it is now
  pub record Posting (l : List A) (v : EventQueue) (q : Queue) (i : ℕ) : Type 0 where
    pub queue : QueueFits q
    pub rest : post_all v (events l) ≡ post_all (queue_of q) (events (drop i l))

  module _ {l : List A} {v : EventQueue} {q : Queue} {i : ℕ} (p : Posting l v q i) (d : A) (inside : i < length l) where
    -- the events of the element at i are posted: those of the elements after it are still to come
    pub posting-more : (q' : Queue) (now : List Issued)
        → events (get_or l i d ∷ drop (i + 1) l) ≡ now ++ events (drop (i + 1) l)
        → QueueHolds q' (post_all (queue_of q) now)
        → Posting l v q' (i + 1)
    posting-more q' now e t = record {
      queue = t.fits;
      rest =
          p.rest
          ∙ rw (drop_more l i d inside, e, post-join (queue_of q) now (events (drop (i + 1) l)))
          (ap (λ (w : EventQueue). post_all w (events (drop (i + 1) l))) (sym t.held));
    }
