-- A show is loaded in one way only: any two proofs of `Loaded` are equal, so that a value may keep one.
use Rattle.std.specs.Prelude.{ℕ, ◌≡◌, List, refl, Option, Some, None, Ok, Err}
use Rattle.std.specs.Coded.{Coded, Coded-set, code_by, coded×, coded_ℕ, coded_list, coded_option, le_prop}
use Rattle.model.specs.Blocks.{Link, Use, Block}
use Rattle.model.specs.Verdicts.{Verdict, Accepted, refusal, refused}
use Rattle.verdicts.specs.Index.{IndexedBlock, Indexed}
use Rattle.blocks.specs.Loaded.{Loaded}

-- Each is coded as the tuple of its fields.
link_code : Coded Link
link_code =
    code_by (ℕ × (ℕ × ℕ)) (coded× coded_ℕ (coded× coded_ℕ coded_ℕ)) (λ l. (l.from, (l.to, l.label)))
    (λ p. record { from = p.0; to = p.1.0; label = p.1.1 }) (λ _. refl)

use_code : Coded Use
use_code = code_by (ℕ × List ℕ) (coded× coded_ℕ (coded_list coded_ℕ)) (λ u. (u.block, u.at)) (λ p. record { block = p.0; at = p.1 }) (λ _. refl)

block_code : Coded Block
block_code =
    code_by (ℕ × (ℕ × (List Link × List Use))) (coded× coded_ℕ (coded× coded_ℕ (coded× (coded_list link_code) (coded_list use_code))))
    (λ b. (b.joins, (b.own, (b.links, b.uses)))) (λ p. record { joins = p.0; own = p.1.0; links = p.1.1.0; uses = p.1.1.1 }) (λ _. refl)

-- A verdict as the number and the place of its refusal, if it is one.
numbers : Verdict → Option (ℕ × ℕ)
numbers (Ok _) = None
numbers (Err r) = Some (r.number, r.place)

of_numbers : Option (ℕ × ℕ) → Verdict
of_numbers None = Accepted
of_numbers (Some p) = refused p.0 p.1

numbers-back : (v : Verdict) → of_numbers (numbers v) ≡ v
unfolding refused refusal of_numbers numbers
numbers-back (Ok _) = refl
numbers-back (Err r) = refl

verdict_code : Coded Verdict
verdict_code = code_by (Option (ℕ × ℕ)) (coded_option (coded× coded_ℕ coded_ℕ)) numbers of_numbers numbers-back

IndexedBlock-prop : (xs t : List ℕ) (k : ℕ) → IsProp (IndexedBlock xs t k)
IndexedBlock-prop xs t k a b =
    λ i. record {
      opening = Coded-set coded_ℕ _ _ a.opening b.opening i;
      opens = le_prop a.opens b.opens i;
      links = le_prop a.links b.links i;
      ends = le_prop a.ends b.ends i;
      block = Coded-set block_code _ _ a.block b.block i;
      total = Coded-set coded_ℕ _ _ a.total b.total i;
    }

Indexed-prop : (xs t : List ℕ) → IsProp (Indexed xs t)
Indexed-prop xs t a b = λ i. record { size = Coded-set coded_ℕ _ _ a.size b.size i; at = λ k h. IndexedBlock-prop xs t k (a.at k h) (b.at k h) i }

pub Loaded-prop : (xs t : List ℕ) → IsProp (Loaded xs t)
Loaded-prop xs t a b = λ i. record { accepted = Coded-set verdict_code _ _ a.accepted b.accepted i; index = Indexed-prop xs t a.index b.index i }
