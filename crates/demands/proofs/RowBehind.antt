-- What row answers and leaves is what document 02 demands: the rows that stand as a link from s to t are those of the links of the unfolded show, and
-- the best of them is given.
use Prim.Native.Nat.{ℕ, ◌≤◌}
use native.Mathlib.Omega.{arith}
use mathlib.Core.Path.{◌≡◌, refl, sym, ◌∙◌, ap, ap₂}
use mathlib.Core.Logic.{◌⊎◌, inl, inr, ◌↔◌}
use mathlib.Core.List.Memᴰ
use mathlib.Core.List.{List, [], ◌∷◌, Memᴰ}
use lib.ListN.{length}
use Rattle.std.specs.Prelude.{Ok, Err}
use Rattle.model.specs.Limits.{max_depth}
use Rattle.model.specs.Blocks.{Link, Block, blocks_of, last_block, count}
use Rattle.model.specs.Verdicts.{refusal, verdict, Accepted}
use Rattle.model.specs.Unfolding.{renamed, show_links}
use Rattle.model.specs.Behind.{Origin, Traced, Stands, Missing, show_traced, origins, behind}
use Rattle.model.specs.Lists.{overwrite}
use Rattle.model.specs.Answers.{of_row, RowAnswer, row_at_depth}
use Rattle.model.specs.Questions.{Outcome, outcome, refuse, answer, row_found, row_in, row_asked}
use Rattle.shows.specs.Accepted.{Show}
use Rattle.shows.specs.Copies.{Steps, number, show_copy}
use Rattle.shows.specs.Lists.{Leads}
use Rattle.shows.proofs.Accepted.{accepted-show}
use Rattle.shows.proofs.TracedByPath.{trace, after_lower}
use Rattle.shows.proofs.Outcomes.{on-yes, has_room, has-cue}
use Rattle.model.specs.Asking.{AsksRow}
use Rattle.demands.specs.Acceptance.{nth_row}
use Rattle.demands.specs.Copies.{copy_at}
use Rattle.demands.specs.RowBehind.{StandsAs, Wins, link, IsGiven, IsRowBehind}
use Rattle.demands.proofs.Answers.{row_is, rows-same, untraced-is}
use Rattle.demands.proofs.Buffers.{leaves}
use Rattle.demands.proofs.Blocks.{last-low}
use Rattle.demands.proofs.PartsOfRows.{both_known, both_then, both_else}
use Rattle.demands.proofs.LinkRows.{row_link}
use Rattle.demands.proofs.LinksOfRows.{trace_row, row-trace, link-trace, trace_link}
use Rattle.demands.proofs.Winning.{Beats, wins-both, BestOf, no_best, the_best, best_of}

-- The origins of the links from s to t, among links with their origins.
module _ (s t : ℕ) where
  abbrev Joins : Link → Type 0
  Joins l = (l.from ≡ s) × (l.to ≡ t)

  joins-known : (l : Link) → Dec (Joins l)
  joins-known l = both_known l.from s l.to t

  -- One that joins them, and one that doesn't.
  module _ (y : Traced) (ys : List Traced) where
    origin-this : Joins y.link → origins s t (y ∷ ys) ≡ y.origin ∷ origins s t ys
    unfolding origins
    origin-this (a, b) = both_then y.link.from s y.link.to t _ _ a b

    origin-other : (Joins y.link → ⊥) → origins s t (y ∷ ys) ≡ origins s t ys
    unfolding origins
    origin-other n = both_else y.link.from s y.link.to t _ _ n

  origin-in : (xs : List Traced) (x : Traced) → Memᴰ x xs → Joins x.link → Memᴰ x.origin (origins s t xs)
  origin-in [] x i h = absurd (Memᴰ.not-nil i)
  origin-in (y ∷ xs) x i h = go (origin-in xs x) (Memᴰ.cases_cons i) (joins-known y.link)
    where
      go : (Memᴰ x xs → Joins x.link → Memᴰ x.origin (origins s t xs)) → (x ≡ y) ⊎ Memᴰ x xs → Dec (Joins y.link)
          → Memᴰ x.origin (origins s t (y ∷ xs))
      go below (inl e) (yes k) = rw (origin-this y xs k) (Memᴰ.head (ap (λ (z : Traced). z.origin) e))
      go below (inl e) (no k) = absurd (k (rw e at h))
      go below (inr j) (yes k) = rw (origin-this y xs k) (Memᴰ.tail (below j h))
      go below (inr j) (no k) = rw (origin-other y xs k) (below j h)

  -- And back.
  abbrev Comes : List Traced → Origin → Type 0
  Comes xs o = (l : Link) × Memᴰ (record { origin = o; link = l }) xs × Joins l

  origin-out : (xs : List Traced) (o : Origin) → Memᴰ o (origins s t xs) → Comes xs o
  unfolding origins
  origin-out [] o i = absurd (Memᴰ.not-nil i)
  origin-out (y ∷ xs) o i = go (origin-out xs o) (joins-known y.link)
    where
      later : Comes xs o → Comes (y ∷ xs) o
      later (l, m, k) = (l, Memᴰ.tail m, k)

      first : Joins y.link → (Memᴰ o (origins s t xs) → Comes xs o) → (o ≡ y.origin) ⊎ Memᴰ o (origins s t xs) → Comes (y ∷ xs) o
      first k below (inl e) = (y.link, Memᴰ.head (ap (λ (o : Origin). record { origin = o; link = y.link }) e), k)
      first k below (inr j) = later (below j)

      go : (Memᴰ o (origins s t xs) → Comes xs o) → Dec (Joins y.link) → Comes (y ∷ xs) o
      go below (yes k) = first k below (Memᴰ.cases_cons (rw (origin-this y xs k) at i))
      go below (no k) = later (below (rw (origin-other y xs k) at i))

-- Of accepted rows.
module _ (xs : List ℕ) (v : verdict xs ≡ Accepted) where
  abbrev bs : List Block
  bs = blocks_of xs

  shown : Show xs
  shown = accepted-show xs v

  -- A path down from the show is no longer than a lent list.
  path-short : (path : List ℕ) → Steps (show_copy bs) path → length path ≤ max_depth
  path-short path s = omega (arith, after_lower bs shown.good (last_block bs) 0 [] path s, shown.blocks, last-low xs v)

  -- A link of the unfolded show with its origin: what stands as it.
  module _ (path : List ℕ) (row : ℕ) where
    trace_stands : (l : Link) → Memᴰ (trace path row l) (show_traced xs) → StandsAs xs l.from l.to path row × ((nth_row xs row).label ≡ l.label)
    unfolding show_traced renamed
    trace_stands l m =
        let r = trace_row xs v (last_block bs) 0 [] (last-low xs v) path row l m in
        let k = r.row_is in (
          record {
            steps = r.steps;
            is = k.is;
            links = k.links;
            block = k.block;
            from = sym (ap (λ (l : Link). l.from) k.link);
            to = sym (ap (λ (l : Link). l.to) k.link);
          },
          sym (ap (λ (l : Link). l.label) k.link),
        )

    stands-trace : (s t : ℕ) → StandsAs xs s t path row → Memᴰ (trace path row (link s t (nth_row xs row).label)) (show_traced xs)
    unfolding show_traced renamed
    stands-trace s t h =
        let e : link s t (nth_row xs row).label ≡ renamed (number (copy_at xs path)) (row_link (nth_row xs row)) =
        ap₂ (λ (a b : ℕ). link a b (nth_row xs row).label) (sym h.from) (sym h.to) in
        row-trace xs v (last_block bs) 0 [] (last-low xs v) path row _
        (record { steps = h.steps; row_is = record { is = h.is; links = h.links; block = h.block; link = e } })

  -- The links of the unfolded show are those that have an origin.
  shown-trace : (l : Link) → Memᴰ l (show_links bs) → (x : Traced) × Memᴰ x (show_traced xs) × (l ≡ x.link)
  unfolding show_links show_traced
  shown-trace l i = link-trace xs (last_block bs) 0 [] l i

  trace_shown : (x : Traced) → Memᴰ x (show_traced xs) → Memᴰ x.link (show_links bs)
  unfolding show_links show_traced
  trace_shown x i = trace_link xs (last_block bs) 0 [] x i

  module _ (s t : ℕ) where
    stands-shown : (path : List ℕ) (row : ℕ) → StandsAs xs s t path row → Memᴰ (link s t (nth_row xs row).label) (show_links bs)
    stands-shown path row h = trace_shown _ (stands-trace path row s t h)

    shown-stands : (label : ℕ) → Memᴰ (link s t label) (show_links bs)
        → (path : List ℕ) × (row : ℕ) × StandsAs xs s t path row × ((nth_row xs row).label ≡ label)
    shown-stands label i = let (x, j, e) = shown-trace _ i in go x j e
      where
        go : (x : Traced) → Memᴰ x (show_traced xs) → link s t label ≡ x.link
            → (path : List ℕ) × (row : ℕ) × StandsAs xs s t path row × ((nth_row xs row).label ≡ label)
        go x j e =
            let (h, l) = trace_stands x.origin.path x.origin.row x.link j in
            let a : s ≡ x.link.from = ap (λ (l : Link). l.from) e in
            let b : t ≡ x.link.to = ap (λ (l : Link). l.to) e in
            (x.origin.path, x.origin.row, rw (a, b) h, l ∙ sym (ap (λ (l : Link). l.label) e))

    -- So the origins of the links from s to t are what stands so.
    abbrev all : List Origin
    all = origins s t (show_traced xs)

    origin-stands : (o : Origin) → Memᴰ o all → StandsAs xs s t o.path o.row
    origin-stands o i = let (l, j, k) = origin-out s t (show_traced xs) o i in rw (k.0, k.1) at (trace_stands o.path o.row l j).0

    stands-origin : (path : List ℕ) (row : ℕ) → StandsAs xs s t path row → Memᴰ (record { path = path; row = row }) all
    stands-origin path row h = origin-in s t (show_traced xs) _ (stands-trace path row s t h) (refl, refl)

    leads-stands : Leads (show_links bs) s t → (path : List ℕ) × (row : ℕ) × StandsAs xs s t path row
    leads-stands (l, i, a, b) =
        let (path, row, h, e) = shown-stands l.label (rw (← a, ← b) i) in
        (path, row, h)

    -- What is answered.
    module _ (lent after : List ℕ) (r : RowAnswer) (room : max_depth ≤ length lent) (low : 1 ≤ s) (high : s ≤ count bs) (low' : 1 ≤ t) (high' : t ≤ count bs)
        (e : AsksRow xs s t lent r after) where
      said : outcome (of_row r) after ≡ row_found (behind xs s t) lent
      unfolding row_asked row_in
      said =
          e
          ∙ on-yes (verdict xs) _ _ v
          ∙ has_room max_depth lent _ room
          ∙ has-cue bs s lent _ low high
          ∙ has-cue bs t lent _ low' high'

      -- The best of the origins,
      said_row : (o : Origin) → behind xs s t ≡ Stands o → (r ≡ Ok (row_at_depth o.row (length o.path))) × (after ≡ overwrite o.path lent)
      unfolding row_found answer
      said_row o b =
          let q : outcome (of_row r) after ≡ row_found (Stands o) lent = rw b at said in
          (row_is r _ _ (ap (λ (o : Outcome). o.answer) q), ap (λ (o : Outcome). o.after) q)

      -- or 14.
      said-none : behind xs s t ≡ Missing → r ≡ Err (refusal 14 0)
      unfolding row_found refuse
      said-none b =
          let q : outcome (of_row r) after ≡ row_found Missing lent = rw b at said in
          untraced-is r (refusal 14 0) (ap (λ (o : Outcome). o.answer) q)

      given_is : (o : Origin) → Memᴰ o all → ((z : Origin) → Memᴰ z all → (z ≡ o) ⊎ Beats o z) → after ≡ overwrite o.path lent
          → IsGiven xs s t lent o.row (length o.path) after
      given_is o i h q =
          let st : StandsAs xs s t o.path o.row = origin-stands o i in
          record {
            path = o.path;
            long = refl;
            leaves = rw q (leaves o.path lent (omega (arith, path-short o.path st.steps)));
            deep = path-short o.path st.steps;
            stands = st;
            shown = stands-shown o.path o.row st;
            wins = λ way other k. over way other (h _ (stands-origin way other k));
            unbeaten = λ way other k w. beaten way other w (h _ (stands-origin way other k));
          }
        where
          over : (way : List ℕ) (other : ℕ) → (record { path = way; row = other } ≡ o) ⊎ Wins o.path o.row way other
              → ((way ≡ o.path) × (other ≡ o.row)) ⊎ Wins o.path o.row way other
          over way other (inl e) = inl (ap (λ (z : Origin). z.path) e, ap (λ (z : Origin). z.row) e)
          over way other (inr w) = inr w

          beaten : (way : List ℕ) (other : ℕ) → Wins way other o.path o.row
              → (record { path = way; row = other } ≡ o) ⊎ Wins o.path o.row way other → ⊥
          beaten way other w (inl e) =
              let a : way ≡ o.path = ap (λ (z : Origin). z.path) e in
              let b : other ≡ o.row = ap (λ (z : Origin). z.row) e in
              let z : Beats o o = rw (a, b) at w in
              wins-both _ _ _ _ z z
          beaten way other w (inr u) = wins-both _ _ _ _ w u

      pub is-row_behind : IsRowBehind xs s t lent r after
      unfolding behind
      is-row_behind = go (best_of all)
        where
          stand : (label : ℕ) → Memᴰ (link s t label) (show_links (blocks_of xs))
              ↔ ((path : List ℕ) × (row : ℕ) × StandsAs xs s t path row × ((nth_row xs row).label ≡ label))
          stand label = (shown-stands label, λ (path, row, h, e). rw e at (stands-shown path row h))

          go : BestOf all (behind xs s t) → IsRowBehind xs s t lent r after
          go (the_best o i h b) =
              let (q, k) = said_row o b in
              let l : Leads (show_links (blocks_of xs)) s t = (_, stands-shown o.path o.row (origin-stands o i), refl, refl) in
              record {
                stand = stand;
                exactly = (λ _. l, λ _. (_, _, q));
                given = λ row depth e. let (a, b) = rows-same r _ _ _ _ e q in rw (a, b) (given_is o i h k);
                none = (λ e. absurd (let z : ◌≡◌ {A = ℕ} 0 1 = cc in omega arith), λ n. absurd (n l));
              }
          go (no_best n b) =
              let q = said-none b in
              let no : Leads (show_links (blocks_of xs)) s t → ⊥ = λ l. let (path, row, h) = leads-stands l in n _ (stands-origin path row h) in
              record {
                stand = stand;
                exactly = (λ (row, depth, e). absurd (let z : ◌≡◌ {A = ℕ} 0 1 = cc in omega arith), λ l. absurd (no l));
                given = λ row depth e. absurd (let z : ◌≡◌ {A = ℕ} 0 1 = cc in omega arith);
                none = (λ _. no, λ _. q);
              }
