-- What count, locate and number answer: each number of the show has its one path and own cue, and either entry point leads back through the other.
use Prim.Native.Nat.{ℕ, ◌≤◌, ◌<◌}
use native.Mathlib.Omega.{arith}
use native.Mathlib.Decide.{ℕ_discrete}
use mathlib.Core.Path.{◌≡◌, sym, ◌∙◌, ap}
use mathlib.Core.Logic.{◌⊎◌, inl, inr, ◌≢◌}
use mathlib.Core.List.{List, Memᴰ}
use lib.ListN.{length, take, length-map}
use Rattle.std.specs.Prelude.{Ok, Err}
use Rattle.model.specs.Limits.{max_depth}
use Rattle.model.specs.Blocks.{own_of, blocks_of, last_block, count}
use Rattle.model.specs.Verdicts.{refusal, verdict, Accepted}
use Rattle.model.specs.Unfolding.{show_links}
use Rattle.model.specs.Paths.{Place, number_in, place_in}
use Rattle.model.specs.Lists.{range, overwrite}
use Rattle.model.specs.Answers.{of_locate, of_number, CountAnswer, NumberAnswer, LocateAnswer, cue_place}
use Rattle.model.specs.Questions.{Outcome, outcome, answer, located, locate_in, count_asked, locate_asked, numbered, number_asked, on_accepted}
use Rattle.basics.proofs.Choices.{eq_then, eq_else}
use Rattle.basics.proofs.Members.{range_length}
use Rattle.shows.specs.Accepted.{Show}
use Rattle.shows.specs.Numbering.{IsPlace}
use Rattle.shows.proofs.Accepted.{accepted-show}
use Rattle.shows.proofs.Numbering.{numbering, never_too_deep}
use Rattle.shows.proofs.Outcomes.{on-yes, has_room, has-cue}
use Rattle.demands.specs.Acceptance.{own_in}
use Rattle.demands.specs.Replacement.{Graph, Ended, node_number, Unfolds}
use Rattle.model.specs.Asking.{AsksCount, AsksLocate, AsksNumber}
use Rattle.demands.specs.Numbers.{node, Before, IsCount, IsNumber, IsLocated}
use Rattle.demands.proofs.Answers.{cues-is, found-is, number_is, unnumbered-is}
use Rattle.demands.proofs.Buffers.{leaves}
use Rattle.demands.proofs.Blocks.{are-blocks, last-low, rows-totals, count-total}
use Rattle.demands.proofs.Rearranging.{perm_length}
use Rattle.demands.proofs.NumberOrder.{number-order}
use Rattle.demands.proofs.Nodes.{numbered-cue, cue-numbered}
use Rattle.demands.proofs.Replacement.{unfolds_show}

-- What number says of the number of a path and an own cue, which is 0 where they have none.
pub data Says (n : ℕ) (r : NumberAnswer) : Type 0 where
  says : n ≢ 0 → r ≡ Ok n → Says n r
  none : n ≡ 0 → r ≡ Err (refusal 13 0) → Says n r

-- The answer that has a place's values, and what it leaves.
located-given : (r : LocateAnswer) (q : Place) (lent after : List ℕ) → outcome (of_locate r) after ≡ located q lent
    → (r ≡ Ok (cue_place (length q.path) q.block q.own)) × (after ≡ overwrite q.path lent)
unfolding located answer
located-given r q lent after e = (found-is r _ _ _ (ap (λ (o : Outcome). o.answer) e), ap (λ (o : Outcome). o.after) e)

module _ (xs : List ℕ) (v : verdict xs ≡ Accepted) where
  abbrev last : ℕ
  last = last_block (blocks_of xs)

  abbrev number_of : List ℕ → ℕ → ℕ
  number_of path c = number_in (blocks_of xs) last 0 path c

  shown : Show xs
  shown = accepted-show xs v

  pub number-says : (path : List ℕ) (c : ℕ) (r : NumberAnswer) → AsksNumber xs path c r → Says (number_of path c) r
  unfolding number_asked on_accepted numbered
  number-says path c r e = go (ℕ_discrete (number_of path c) 0)
    where
      said : of_number r ≡ numbered (number_of path c)
      said = e ∙ (rw v) ∙ ap numbered (never_too_deep (blocks_of xs) shown.good shown.blocks.1 path c)

      go : Dec (number_of path c ≡ 0) → Says (number_of path c) r
      go (yes z) = none z (unnumbered-is r (refusal 13 0) (said ∙ eq_then _ _ _ _ z))
      go (no z) = says z (number_is r (number_of path c) (said ∙ eq_else _ _ _ _ z))

  -- Where locate finds a number of the show.
  abbrev place_of : ℕ → Place
  place_of n = place_in (blocks_of xs) last n

  locate-says : (n : ℕ) (lent after : List ℕ) (r : LocateAnswer) → 1 ≤ n → n ≤ count (blocks_of xs) → max_depth ≤ length lent
      → AsksLocate xs n lent r after
      → (r ≡ Ok (cue_place (length (place_of n).path) (place_of n).block (place_of n).own)) × (after ≡ overwrite (place_of n).path lent)
  unfolding locate_asked locate_in
  locate-says n lent after r low high room e =
      located-given r (place_of n) lent after
      (e ∙ on-yes (verdict xs) _ _ v ∙ has_room max_depth lent _ room ∙ has-cue (blocks_of xs) n lent _ low high)

  -- Whatever the steps, the unfolded show has the cues that have a number.
  unfolded : Unfolds (blocks_of xs) last (show_links (blocks_of xs))
  unfolded = unfolds_show (blocks_of xs) shown.good shown.blocks.0 shown.no_joins

  has-number : {m : ℕ} {g : Graph} → Ended (blocks_of xs) last m g → (path : List ℕ) (c : ℕ) → number_of path c ≢ 0 → Memᴰ (node path c) g.cues
  unfolding node_number
  has-number e path c some = numbered-cue (blocks_of xs) last (unfolded.cues e) (node path c) (omega arith)

  is-cue : {m : ℕ} {g : Graph} → Ended (blocks_of xs) last m g → (path : List ℕ) (c : ℕ) → Memᴰ (node path c) g.cues → number_of path c ≢ 0
  unfolding node_number
  is-cue e path c i z =
      omega (arith, cue-numbered (blocks_of xs) last (unfolded.cues e) shown.good (last-low xs v) (node path c) i)

  pub is-count : (r : CountAnswer) → AsksCount xs r → IsCount xs r
  unfolding count_asked count
  is-count r e =
      record {
        answer = cues-is r (count (blocks_of xs)) (e ∙ on-yes (verdict xs) _ _ v);
        totals = rows-totals xs v;
        total = count-total xs v;
        cues = λ g. perm_length (unfolded.cues g) ∙ length-map (range 1 (count (blocks_of xs))) _ ∙ range_length 1 (count (blocks_of xs));
      }

  node-number : (path : List ℕ) (c n : ℕ) → number_of path c ≡ n → n ≡ node_number (blocks_of xs) last (node path c)
  unfolding node_number
  node-number path c n e = sym e

  -- A number that number gives is that of the path and the own cue.
  given_is : (path : List ℕ) (c n : ℕ) → AsksNumber xs path c (Ok n) → (number_of path c ≡ n) × (n ≢ 0)
  given_is path c n e = go (number-says path c (Ok n) e)
    where
      go : Says (number_of path c) (Ok n) → (number_of path c ≡ n) × (n ≢ 0)
      go (says some q) = let w : number_of path c ≡ n = cc in (w, rw w at some)
      go (none z q) = absurd (let w : ◌≡◌ {A = ℕ} 0 1 = cc in omega arith)

  number-of_place : (n : ℕ) → 1 ≤ n → n ≤ count (blocks_of xs) → IsPlace (blocks_of xs) n (place_of n)
  number-of_place n low high = (numbering (blocks_of xs) shown.good).each n low high

  in_range_is : (path : List ℕ) (c n : ℕ) → number_of path c ≡ n → n ≢ 0 → (1 ≤ n) × (n ≤ count (blocks_of xs))
  in_range_is path c n e some = (omega arith, rw e at ((numbering (blocks_of xs) shown.good).range path c))

  -- Where the number of a path and an own cue is n, locate leads from n to them.
  place_is : (path : List ℕ) (c n : ℕ) → number_of path c ≡ n → n ≢ 0 → (path ≡ (place_of n).path) × (c ≡ (place_of n).own)
  place_is path c n e some = let (low, high) = in_range_is path c n e some in (number-of_place n low high).only path c e

  depth : (n : ℕ) → 1 ≤ n → n ≤ count (blocks_of xs) → length (place_of n).path ≤ max_depth
  unfolding last_block
  depth n low high = omega (arith, (number-of_place n low high).located.depth, shown.blocks)

  leads-back : (path : List ℕ) (c n : ℕ) → number_of path c ≡ n → n ≢ 0 → (lent after : List ℕ) (a : LocateAnswer) → max_depth ≤ length lent
      → AsksLocate xs n lent a after → ((block : ℕ) × (a ≡ Ok (cue_place (length path) block c))) × (take (length path) after ≡ path)
  leads-back path c n e some lent after a room q =
      let (low, high) = in_range_is path c n e some in
      let (f, g) = locate-says n lent after a low high room q in
      let (x, y) = place_is path c n e some in
      let fits : length (place_of n).path ≤ length lent = omega (arith, depth n low high) in
      (((place_of n).block, rw (x, y) f), rw (g, x) (leaves (place_of n).path lent fits).first)

  pub is_number : (path : List ℕ) (c : ℕ) (r : NumberAnswer) → AsksNumber xs path c r → IsNumber xs path c r
  is_number path c r e =
      record {
        exactly = λ g. (λ q. has-number g path c (some q.0 q.1), λ i. found (is-cue g path c i));
        refused = either;
        number = λ n q. node-number path c n (named n q);
        range = λ n q. in_range_is path c n (named n q) (some' n q);
        back = λ n q lent after a room f. leads-back path c n (named n q) (some' n q) lent after a room f;
        in_order_is = λ m q way d n f o. rises m q way d n f o;
      }
    where
      asked : (n : ℕ) → r ≡ Ok n → AsksNumber xs path c (Ok n)
      asked n q = rw q at e

      named : (n : ℕ) → r ≡ Ok n → number_of path c ≡ n
      named n q = (given_is path c n (asked n q)).0

      some' : (n : ℕ) → r ≡ Ok n → n ≢ 0
      some' n q = (given_is path c n (asked n q)).1

      some : (n : ℕ) → r ≡ Ok n → number_of path c ≢ 0
      some n q = rw (named n q) (some' n q)

      either : ((n : ℕ) × (r ≡ Ok n)) ⊎ (r ≡ Err (refusal 13 0))
      either = go (number-says path c r e)
        where
          go : Says (number_of path c) r → ((n : ℕ) × (r ≡ Ok n)) ⊎ (r ≡ Err (refusal 13 0))
          go (says some q) = inl (_, q)
          go (none z q) = inr q

      found : number_of path c ≢ 0 → (n : ℕ) × (r ≡ Ok n)
      found some = go (number-says path c r e)
        where
          go : Says (number_of path c) r → (n : ℕ) × (r ≡ Ok n)
          go (says _ q) = (_, q)
          go (none z q) = absurd (some z)

      rises : (m : ℕ) → r ≡ Ok m → (way : List ℕ) (d n : ℕ) → AsksNumber xs way d (Ok n) → Before path c way d → m < n
      rises m q way d n f o =
          let (h, k) = given_is way d n f in
          rw (← (named m q), ← h)
          (number-order (blocks_of xs) shown.good last 0 (some m q) (rw h k) o)

  own_is : (k : ℕ) → k < length (blocks_of xs) → own_of (blocks_of xs) k ≡ own_in xs k
  unfolding own_of
  own_is k h = (are-blocks xs v).own k h

  pub is-located : (n : ℕ) (lent after : List ℕ) (r : LocateAnswer) → max_depth ≤ length lent → 1 ≤ n → n ≤ count (blocks_of xs)
      → AsksLocate xs n lent r after → IsLocated xs n lent r after
  is-located n lent after r room low high e =
      record {
        path = q.path;
        block = q.block;
        own = q.own;
        answer = said.0;
        leaves = rw said.1 (leaves q.path lent (omega (arith, depth n low high)));
        deep = depth n low high;
        leads = p.located.leads;
        owned = owned;
        cue = λ g. has-number g q.path q.own (rw p.number (λ z. omega arith));
        back = λ a f. back a (number-says q.path q.own a f);
        only = λ way d f. p.only way d (given_is way d n f).0;
      }
    where
      q : Place
      q = place_of n

      p : IsPlace (blocks_of xs) n (place_of n)
      p = number-of_place n low high

      owned : (1 ≤ (place_of n).own) × ((place_of n).own ≤ own_in xs (place_of n).block)
      owned = let (low, high) = p.located.owned in (low, rw (← own_is (place_of n).block p.located.known) high)

      said : (r ≡ Ok (cue_place (length (place_of n).path) (place_of n).block (place_of n).own)) × (after ≡ overwrite (place_of n).path lent)
      said = locate-says n lent after r low high room e

      back : (a : NumberAnswer) → Says (number_of (place_of n).path (place_of n).own) a → a ≡ Ok n
      back a (says some f) = rw p.number at f
      back a (none z f) = absurd (omega (arith, p.number))
