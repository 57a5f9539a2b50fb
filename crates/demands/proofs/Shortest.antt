-- Demand 3 of the fewest question's answer: it is that of a shortest chain, and the work area is left with the summaries.
use Prim.Native.Nat.{ℕ, ◌≤◌}
use native.Mathlib.Omega.{arith}
use mathlib.Core.Path.{◌≡◌, refl, sym, ◌∙◌, ap}
use mathlib.Core.List.{List}
use lib.ListN.{length, get_or}
use Rattle.std.specs.Prelude.{Ok, Err, Some, None}
use Rattle.model.specs.Blocks.{Block, blocks_of, count}
use Rattle.model.specs.Unfolding.{show_links}
use Rattle.model.specs.Chains.{Distance, Far, Unreachable, fewest}
use Rattle.model.specs.Summaries.{work_after}
use Rattle.model.specs.Verdicts.{verdict, Accepted}
use Rattle.model.specs.Answers.{Returned, given, returned, of_fewest, FewestAnswer}
use Rattle.model.specs.Questions.{Outcome, outcome, answer, distance_values, fewest_in, fewest_asked}
use Rattle.distances.specs.Demand.{Shortest}
use Rattle.shows.proofs.Accepted.{accepted-show}
use Rattle.distances.proofs.Fewest.{show_shortest}
use Rattle.model.specs.Asking.{AsksFewest}
use Rattle.shows.proofs.Outcomes.{on-yes, has_room, has-cue}
use Rattle.demands.specs.Fewest.{IsFewest}
use Rattle.demands.specs.WorkArea.{IsWorkArea}
use Rattle.demands.specs.Notes.{followed_links, followed_inside}
use Rattle.demands.proofs.WorkArea.{work-area}

-- The answer of a distance.
unfoldable answer_of : Distance → FewestAnswer
answer_of (Far n) = Ok (Some n)
answer_of Unreachable = Ok None

apart : ◌≡◌ {A = ℕ} 1 0 → ⊥
apart e = omega arith

few : ◌≡◌ {A = ℕ} 0 2 → ⊥
few e = omega arith

-- An answer has its distance's values only if it is that distance's answer.
same_answer : (r : FewestAnswer) (d : Distance) → of_fewest r ≡ given (distance_values d) → r ≡ answer_of d
unfolding of_fewest given distance_values answer_of returned
same_answer (Ok (Some n)) (Far m) e = ap (λ n. Ok (Some n)) (ap (λ (x : Returned). get_or x.values 1 0) e)
same_answer (Ok (Some n)) Unreachable e = absurd (apart (ap (λ (x : Returned). get_or x.values 0 0) e))
same_answer (Ok None) (Far m) e = absurd (apart (sym (ap (λ (x : Returned). get_or x.values 0 0) e)))
same_answer (Ok None) Unreachable e = refl
same_answer (Err f) (Far m) e = absurd (few (ap (λ (x : Returned). length x.values) e))
same_answer (Err f) Unreachable e = absurd (few (ap (λ (x : Returned). length x.values) e))

steps-far : (d : Distance) (n : ℕ) → answer_of d ≡ Ok (Some n) → d ≡ Far n
unfolding answer_of
steps-far (Far m) n e = cc
steps-far Unreachable n e = absurd (let z : ◌≡◌ {A = ℕ} 0 1 = cc in omega arith)

none-unreachable : (d : Distance) → answer_of d ≡ Ok None → d ≡ Unreachable
unfolding answer_of
none-unreachable (Far m) e = absurd (let z : ◌≡◌ {A = ℕ} 0 1 = cc in omega arith)
none-unreachable Unreachable e = refl

module _ (xs : List ℕ) (v : verdict xs ≡ Accepted) (s t : ℕ) (work after : List ℕ) (r : FewestAnswer) (low : 1 ≤ s) (high : s ≤ count (blocks_of xs))
    (low' : 1 ≤ t) (high' : t ≤ count (blocks_of xs)) (room : 16384 ≤ length work) (e : AsksFewest xs s t work r after) where
  abbrev bs : List Block
  bs = blocks_of xs

  abbrev far : Distance
  far = fewest (show_links bs) (count bs) s t

  pub said : outcome (of_fewest r) after ≡ answer (distance_values far) (work_after bs work)
  unfolding fewest_asked fewest_in
  said = e ∙ on-yes (verdict xs) _ _ v ∙ has_room 16384 work _ room ∙ has-cue bs s work _ low high ∙ has-cue bs t work _ low' high'

  pub is-fewest : IsFewest (followed_links xs) s t r
  unfolding answer_of answer
  is-fewest =
      let q = same_answer r far (ap (λ (o : Outcome). o.answer) said) in
      let h : Shortest (followed_links xs) s t far = show_shortest bs (accepted-show xs v).good (accepted-show xs v).no_joins s t low' high' in
      record {
        found = λ m c. let (n, d) = h.found m c in (n, q ∙ ap answer_of d);
        chain = λ n a. h.chain n (steps-far far n (sym q ∙ a));
        none = λ a. h.none (none-unreachable far (sym q ∙ a));
        lost = λ z. q ∙ ap answer_of (h.lost z);
        least = λ n m a c. h.least n m (steps-far far n (sym q ∙ a)) c;
        still = λ a. h.still (steps-far far 0 (sym q ∙ a));
        stays = λ z. q ∙ ap answer_of (h.stays z);
      }

  pub leaves-summaries : IsWorkArea xs (followed_inside xs) work after
  unfolding answer
  leaves-summaries = rw (ap (λ (o : Outcome). o.after) said) (work-area xs work v room)
