-- The walk from copy to copy: where it ends, the copy's own row is the best one; else it goes on into the part that the lead leads to.
use Prim.Native.Nat.{ℕ, zero, suc, ◌+◌, ◌-◌, ◌≤◌, ◌<◌}
use native.Mathlib.Omega.{arith}
use native.Mathlib.Decide.{ℕ_discrete}
use native.Mathlib.Numerals.{add-one}
use mathlib.Core.Path.{◌≡◌, refl, sym, ◌∙◌, ap, ap₂}
use mathlib.Core.Logic.{◌≢◌, ◌⊎◌, inl, inr}
use mathlib.Core.Bool.{Bool, true, false, false≢true}
use mathlib.Core.List.{List, [], ◌∷◌, ◌++◌, Memᴰ}
use lib.ListN.{length, get_or, set, length-set, length-append, get_or-append}
use lib.Seq.{get_or-append_seam, get_or-set_same, get_or-set_other}
use Rattle.model.specs.Choice.{if_eq}
use Rattle.model.specs.Limits.{max_blocks, max_rows, max_depth}
use Rattle.model.specs.Blocks.{Link, Block, block_at, own_of, blocks_of}
use Rattle.model.specs.Behind.{Origin, step_into, rows_traced, traced, opening_row, origins, depth_wins, Behind, Stands, Missing, winner, best, behind}
use Rattle.basics.proofs.Choices.{eq_then, eq_else, true_then, true_else}
use Rattle.shows.specs.WellFormed.{Cue, GoodLink}
use Rattle.shows.specs.Copies.{Part, Copy, number, meets, copy_of, Sound}
use Rattle.shows.specs.Origins.{into, into_all, own_row}
use Rattle.shows.proofs.BlockAt.{own_of_at, joins_of-at}
use Rattle.shows.proofs.Locality.{part_sound}
use Rattle.shows.proofs.Choosing.{winner-none, best-append, depth-step, own_first, own-second, own-rows}
use Rattle.shows.proofs.Origins.{copy-origins, own-origins, parts-origins}
use Rattle.verdicts.specs.Index.{use_at, links_from}
use Rattle.blocks.specs.Loaded.{Loaded, IsBlock, LinkRows, uses_begin, UseRow}
use Rattle.blocks.proofs.Loaded.{loaded-show}
use Rattle.blocks.specs.Places.{block_on, Takes}
use Rattle.copies.specs.Copies.{inner_base}
use Rattle.levels.specs.Tables.{join_cue, used_joins}
use Rattle.levels.proofs.Best.{here, own-next, join_meets}
use Rattle.levels.proofs.Deep.{level-small}
use Rattle.behind.specs.declared.Pair.{Pair}
use Rattle.behind.specs.declared.Lead.{Lead}
use Rattle.behind.specs.Leads.{row_between, stays_here, step_of, MayLead, Led, part_best, led_to, BestLead, IsFound, IsLead, level_of, MayFollow, Followed}
use Rattle.behind.specs.Ways.{Leading, Reaches, StandsAt, MayWalk}
use Rattle.std.specs.Prelude.{Option, None, Some, IfSome, unwrap_or}
use Rattle.behind.proofs.Trying.{level-some, row-part, uses-use, led-level}

-- A path in front of what a copy has.
pub into_all-none : (path : List ℕ) → into_all path Missing ≡ Missing
unfolding into_all into
into_all-none [] = refl
into_all-none (p ∷ path) = ap (into p) (into_all-none path)

into_all-row : (path : List ℕ) (r : ℕ) → into_all path (own_row r) ≡ Stands (record { path = path; row = r })
unfolding into_all into step_into
into_all-row [] r = refl
into_all-row (p ∷ path) r = ap (into p) (into_all-row path r)

pub into_all-snoc : (path : List ℕ) (p : ℕ) (b : Behind) → into_all (path ++ p ∷ []) b ≡ into_all path (into p b)
unfolding into_all
into_all-snoc [] p b = refl
into_all-snoc (q ∷ path) p b = ap (into q) (into_all-snoc path p b)

-- One row more that leads along one step more.
module _ (xs : List ℕ) (rows : List ℕ) (d r : ℕ) where
  block-kept : (l : ℕ) → l ≤ d → block_on xs (set rows d r) l ≡ block_on xs rows l
  unfolding block_on
  block-kept zero h = refl
  block-kept (suc l) h = ap (λ (i : ℕ). (use_at xs (blocks_of xs) i).block) (get_or-set_other rows d l r 0 (λ e. omega arith))

  block-next : d < length rows → block_on xs (set rows d r) (suc d) ≡ (use_at xs (blocks_of xs) r).block
  unfolding block_on
  block-next h = ap (λ (i : ℕ). (use_at xs (blocks_of xs) i).block) (get_or-set_same rows d r 0 h)

-- What holds at each of the first rows, and at the next, holds at each of one more.
each_more : (P : ℕ → Type 0) (n : ℕ) → ((l : ℕ) → l < n → P l) → P n → (l : ℕ) → l < suc n → P l
each_more P n before last l h = go (ℕ_discrete l n)
  where
    go : Dec (l ≡ n) → P l
    go (yes e) = rw e last
    go (no m) = before l (omega arith)

module _ {xs t rows path : List ℕ} (a : Leading xs t rows path) (p r : ℕ) (room : length path < length rows)
    (u : UseRow xs (block_on xs rows (length path)) r) (takes : Takes t (block_on xs rows (length path)) p r)
    (begin : uses_begin t (block_on xs rows (length path)) ≤ r) where
  abbrev after : List ℕ
  after = set rows (length path) r

  abbrev longer : List ℕ
  longer = path ++ p ∷ []

  long : length longer ≡ suc (length path)
  long = length-append path (p ∷ []) ∙ add-one (length path)

  row_before : (l : ℕ) → l < length path → get_or after l 0 ≡ get_or rows l 0
  row_before l h = get_or-set_other rows (length path) l r 0 (λ e. omega arith)

  row_last : get_or after (length path) 0 ≡ r
  row_last = get_or-set_same rows (length path) r 0 room

  uses-more : (l : ℕ) → l < suc (length path) → UseRow xs (block_on xs after l) (get_or after l 0)
  uses-more =
      each_more (λ l. UseRow xs (block_on xs after l) (get_or after l 0)) (length path)
      (λ l h. rw (block-kept xs rows (length path) r l (omega arith), row_before l h) (a.along.uses.at l h))
      (rw (block-kept xs rows (length path) r (length path) (omega arith), row_last) u)

  steps-more : (l : ℕ) → l < suc (length path) → Takes t (block_on xs after l) (get_or longer l 0) (get_or after l 0)
  steps-more =
      each_more (λ l. Takes t (block_on xs after l) (get_or longer l 0) (get_or after l 0)) (length path)
      (λ l h. rw (block-kept xs rows (length path) r l (omega arith), row_before l h, get_or-append path (p ∷ []) 0 l h) (a.along.steps l h))
      (rw (block-kept xs rows (length path) r (length path) (omega arith), row_last, get_or-append_seam path p [] 0) takes)

  begins-more : (l : ℕ) → l < suc (length path) → uses_begin t (block_on xs after l) ≤ get_or after l 0
  begins-more =
      each_more (λ l. uses_begin t (block_on xs after l) ≤ get_or after l 0) (length path)
      (λ l h. rw (block-kept xs rows (length path) r l (omega arith), row_before l h) (a.begin l h))
      (rw (block-kept xs rows (length path) r (length path) (omega arith), row_last) begin)

  leading-more : Leading xs t after longer
  leading-more =
      record {
        along =
            record {
              uses = record { long = omega (arith, long, length-set rows (length path) r); at = λ l h. uses-more l (omega (arith, long)) };
              steps = λ l h. steps-more l (omega (arith, long));
            };
        begin = λ l h. begins-more l (omega (arith, long));
      }

-- The best of a copy's own rows is the first that leads from x to y.
unfoldable own_best : ℕ → Behind
own_best row = if_eq row 0 Missing (own_row row)

row_from_is : (x y r : ℕ) (ls : List Link) → (row_between x y r ls ≡ 0) ⊎ (r ≤ row_between x y r ls)
unfolding row_between
row_from_is x y r [] = inl refl
row_from_is x y r (l ∷ ls) = go (row_from_is x y (suc r) ls) (ℕ_discrete l.from x) (ℕ_discrete l.to y)
  where
    rest : ℕ
    rest = row_between x y (suc r) ls

    below : (rest ≡ 0) ⊎ (suc r ≤ rest) → (rest ≡ 0) ⊎ (r ≤ rest)
    below (inl e) = inl e
    below (inr h) = inr (omega arith)

    go : (rest ≡ 0) ⊎ (suc r ≤ rest) → Dec (l.from ≡ x) → Dec (l.to ≡ y)
        → (if_eq l.from x (if_eq l.to y r rest) rest ≡ 0) ⊎ (r ≤ if_eq l.from x (if_eq l.to y r rest) rest)
    go h (yes a) (yes b) = rw (eq_then l.from x (if_eq l.to y r rest) rest a, eq_then l.to y r rest b) (inr (omega arith))
    go h (yes a) (no b) = rw (eq_then l.from x (if_eq l.to y r rest) rest a, eq_else l.to y r rest b) (below h)
    go h (no a) d = rw (eq_else l.from x (if_eq l.to y r rest) rest a) (below h)

own-winner : (r q : ℕ) → (q ≡ 0) ⊎ (suc r ≤ q) → winner (own_row r) (own_best q) ≡ own_row r
unfolding own_best
own-winner r q (inl e) = ap (winner (own_row r)) (eq_then q 0 _ _ e) ∙ winner-none (own_row r)
own-winner r q (inr h) = ap (winner (own_row r)) (eq_else q 0 _ _ (λ e. omega arith)) ∙ own-rows r q (omega arith)

module _ (xs : List ℕ) (k base : ℕ) (met : List ℕ) (g : Sound (copy_of (blocks_of xs) k base met)) (x y : ℕ)
    (cx : Cue (block_at (blocks_of xs) k) x) (cy : Cue (block_at (blocks_of xs) k) y) where
  abbrev bs : List Block
  bs = blocks_of xs

  abbrev z : Copy
  z = copy_of bs k base met

  own-best : (r : ℕ) (ls : List Link) → 1 ≤ r → ((l : Link) → Memᴰ l ls → GoodLink z.block l)
      → best (origins (number z x) (number z y) (rows_traced (number z) r ls)) ≡ own_best (row_between x y r ls)
  unfolding rows_traced origins best row_between own_best here winner
  own-best r [] h ok = sym (eq_then 0 0 _ _ refl)
  own-best r (l ∷ ls) h ok =
      own-next xs k base met g x y cx cy r l ls (ok l (Memᴰ.head refl))
      ∙ ap (winner (here xs k base met g x y cx cy r l)) (own-best (suc r) ls (omega arith) (λ w i. ok w (Memᴰ.tail i)))
      ∙ first r l ls h (row_from_is x y (suc r) ls) (ℕ_discrete l.from x) (ℕ_discrete l.to y)
    where
      first : (r : ℕ) (l : Link) (ls : List Link) → 1 ≤ r → (row_between x y (suc r) ls ≡ 0) ⊎ (suc r ≤ row_between x y (suc r) ls) → Dec (l.from ≡ x) → Dec (l.to ≡ y)
          → winner (here xs k base met g x y cx cy r l) (own_best (row_between x y (suc r) ls)) ≡ own_best (row_between x y r (l ∷ ls))
      first r l ls h b (yes e) (yes f) =
          let rest : ℕ = row_between x y (suc r) ls in
          ap (λ (a : Behind). winner a (own_best rest)) (eq_then l.from x _ _ e ∙ eq_then l.to y _ _ f)
          ∙ own-winner r rest b
          ∙ sym (ap own_best (eq_then l.from x (if_eq l.to y r rest) rest e ∙ eq_then l.to y r rest f) ∙ eq_else r 0 _ _ (λ z. omega arith))
      first r l ls h b (yes e) (no f) =
          let rest : ℕ = row_between x y (suc r) ls in
          ap (λ (a : Behind). winner a (own_best rest)) (eq_then l.from x _ _ e ∙ eq_else l.to y _ _ f)
          ∙ sym (ap own_best (eq_then l.from x (if_eq l.to y r rest) rest e ∙ eq_else l.to y r rest f))
      first r l ls h b (no e) d =
          let rest : ℕ = row_between x y (suc r) ls in
          ap (λ (a : Behind). winner a (own_best rest)) (eq_else l.from x _ _ e)
          ∙ sym (ap own_best (eq_else l.from x (if_eq l.to y r rest) rest e))

-- A copy of a block that is given by another name.
pub sound-as : {bs : List Block} {j k base : ℕ} {met : List ℕ} → j ≡ k → Sound (copy_of bs k base met) → Sound (copy_of bs j base met)
sound-as e s = rw e s

-- The number of a copy's own row, as the code has it.
found_is : (o : Option ℕ) (n : ℕ) → IsFound o n → unwrap_or o 0 ≡ n
found_is None n e = sym e
found_is (Some k) n e = sym e.1

-- The best link between two cues of a copy: that of its own row, or the one that the lead leads to.
module _ {xs t m : List ℕ} (g : Loaded xs t) (c : Pair) (may : MayLead xs m c) {first end : ℕ} (links : LinkRows xs c.block first end) (o : Option Lead) (lead : BestLead xs t c o)
    (own : Option ℕ) (is : IsFound own (row_between c.from c.to (first + 1) (links_from xs first (end - first)))) where
  abbrev all : List Block
  all = blocks_of xs

  abbrev row : ℕ
  row = unwrap_or own 0

  abbrev copy : ℕ → List ℕ → Copy
  copy base met = copy_of all c.block base met

  abbrev whole : ℕ → List ℕ → Behind
  whole base met =
      best (origins (number (copy base met) c.from) (number (copy base met) c.to) (traced (opening_row xs) all c.block base met))

  copy-best : (base : ℕ) (met : List ℕ) → Sound (copy base met) → whole base met ≡ winner (own_best row) (led_to xs t c base met o)
  unfolding own_of
  copy-best base met s =
      ap best (copy-origins (opening_row xs) all c.block base met s _ _)
      ∙ best-append (own-origins (opening_row xs) all c.block base met s _ _) (parts-origins (opening_row xs) all c.block base met s _ _)
      ∙ ap₂ winner
      (own-best xs c.block base met s c.from c.to may.from may.to (suc (opening_row xs c.block)) (block_at all c.block).links (omega arith)
      (λ l i. s.fit.good.links l i)
      ∙ ap own_best (sym (found_is own _ is ∙ same)))
      (lead.best base met s)
    where
      same : row_between c.from c.to (first + 1) (links_from xs first (end - first))
          ≡ row_between c.from c.to (suc (opening_row xs c.block)) (block_at all c.block).links
      same =
          let e : first + 1 ≡ suc (opening_row xs c.block) = omega (arith, links.opened) in
          ap₂ (row_between c.from c.to) e (sym links.links)

  -- The level of a lead is that of the best link that it leads to.
  lead-small : (b : Lead) → Led xs t c lead.end b → (base : ℕ) (met : List ℕ) → Sound (copy base met)
      → (y : Origin) × (led_to xs t c base met (Some b) ≡ into (step_of t c.block b.row) (Stands y)) × (b.level ≡ suc (length y.path))
  unfolding led_to
  lead-small b d base met s =
      let (y, e, l) = level-some (part_best xs t c base met b.row) b.level (led-level g c may lead.end b d base met s) d.some in
      (y, ap (into (step_of t c.block b.row)) e, l)

  module _ (base : ℕ) (met : List ℕ) (s : Sound (copy base met)) where
    -- It ends here.
    stays-best : stays_here row (level_of o) ≡ true → whole base met ≡ own_best row
    unfolding stays_here own_best level_of led_to
    stays-best e = copy-best base met s ∙ go o lead.lead e (ℕ_discrete row 0)
      where
        go : (o : Option Lead) → IsLead xs t c lead.end o → stays_here row (level_of o) ≡ true → Dec (row ≡ 0) → winner (own_best row) (led_to xs t c base met o) ≡ own_best row
        go None l e d = winner-none (own_best row)
        go (Some b) l e (yes r) = absurd (false≢true (sym (eq_else b.level 0 _ _ l.some ∙ eq_then row 0 _ _ r) ∙ e))
        go (Some b) l e (no r) = by (depth_wins (b.level + 1) 1) refl
          where
            by : (w : Bool) → depth_wins (b.level + 1) 1 ≡ w → winner (own_best row) (led_to xs t c base met (Some b)) ≡ own_best row
            by true f = absurd (false≢true (sym (eq_else b.level 0 _ _ l.some ∙ eq_else row 0 _ _ r ∙ true_then _ _ _ f) ∙ e))
            by false f =
                let (y, q, k) = lead-small b l base met s in
                let v : depth_wins (suc (length y.path)) 0 ≡ false =
                sym (depth-step (suc (length y.path)) 0) ∙ ap (λ (i : ℕ). depth_wins i 1) (sym (add-one b.level ∙ ap suc k)) ∙ f in
                ap₂ winner (eq_else row 0 _ _ r) q ∙ own_first (step_of t c.block b.row) row y v ∙ sym (eq_else row 0 _ _ r)

    -- It goes on, along the lead.
    goes-best : (b : Lead) → o ≡ Some b → stays_here row (level_of o) ≡ false → whole base met ≡ into (step_of t c.block b.row) (part_best xs t c base met b.row)
    unfolding stays_here own_best level_of led_to winner
    goes-best b eo e =
        copy-best base met s ∙ ap (λ (o : Option Lead). winner (own_best row) (led_to xs t c base met o)) eo ∙ go (rw eo at lead.lead) (rw eo at e) (ℕ_discrete row 0) (depth_wins (b.level + 1) 1) refl
      where
        go : Led xs t c lead.end b → stays_here row b.level ≡ false → Dec (row ≡ 0) → (w : Bool) → depth_wins (b.level + 1) 1 ≡ w
            → winner (own_best row) (led_to xs t c base met (Some b)) ≡ into (step_of t c.block b.row) (part_best xs t c base met b.row)
        go d e (yes r) w f = ap (λ (a : Behind). winner a (led_to xs t c base met (Some b))) (eq_then row 0 _ _ r)
        go d e (no r) false f = absurd (false≢true (sym e ∙ eq_else b.level 0 _ _ d.some ∙ eq_else row 0 _ _ r ∙ true_else _ _ _ f))
        go d e (no r) true f =
            let (y, q, l) = lead-small b d base met s in
            let v : depth_wins (suc (length y.path)) 0 ≡ true =
            sym (depth-step (suc (length y.path)) 0) ∙ ap (λ (i : ℕ). depth_wins i 1) (sym (add-one b.level ∙ ap suc l)) ∙ f in
            ap₂ winner (eq_else row 0 _ _ r) q ∙ own-second (step_of t c.block b.row) row y v ∙ sym q

  -- Where the way ends, the copy's own row is the one behind the follow-on, if it has one.
  module _ {rows : List ℕ} {s v d : ℕ} (e : stays_here row (level_of o) ≡ true) (r : Reaches xs t rows s v d c) where
    said : behind xs s v ≡ into_all r.path (own_best row)
    said =
        r.rest
        ∙ ap (into_all r.path)
        (ap₂ (λ (a w : ℕ). best (origins a w (traced (opening_row xs) all c.block r.base r.met))) (sym r.from) (sym r.to)
        ∙ stays-best r.base r.met r.sound e)

    pub ends-without : own ≡ None → behind xs s v ≡ Missing
    unfolding own_best
    ends-without n = said ∙ ap (into_all r.path) (eq_then row 0 _ _ (ap (λ (a : Option ℕ). unwrap_or a 0) n)) ∙ into_all-none r.path

    pub ends-at : (q : ℕ) → own ≡ Some q → d + c.block ≤ max_depth → (q ≢ 0) × StandsAt xs t rows s v q d
    unfolding own_best
    ends-at q n short =
        let f : (q ≢ 0) × (row_between c.from c.to (first + 1) (links_from xs first (end - first)) ≡ q) = rw n at is in
        let i : row ≡ q = ap (λ (a : Option ℕ). unwrap_or a 0) n in (
          f.0,
          record {
            path = r.path;
            is = said ∙ ap (into_all r.path) (eq_else row 0 _ _ (λ z. f.0 (sym i ∙ z))) ∙ into_all-row r.path row ∙ ap (λ (i : ℕ). Stands (record { path = r.path; row = i })) i;
            deep = sym r.depth;
            few = omega arith;
            leading = r.leading;
          },
        )

  -- It goes on: in the copy that the lead leads to, with the cues that its joins meet.
  module _ (b : Lead) (eo : o ≡ Some b) (stay : stays_here row (level_of o) ≡ false) where
    led : Led xs t c lead.end b
    led = rw eo at lead.lead

    lead-use : UseRow xs c.block b.row
    lead-use = uses-use g may.block led.row

    pub may_follow_lem : MayFollow xs b
    may_follow_lem = record { k = c.block; row = lead-use; from = led.from-join; to = led.to-join }

    pub room-left : {rows : List ℕ} {d : ℕ} → MayWalk xs m rows d c → d < length rows
    room-left may = omega (arith, may.room, may.short, lead-use.lower)

    pub row-few : b.row < max_rows
    row-few = lead-use.few

    module _ (next : Pair) (fd : Followed xs b next) where
      pub lower : next.block < c.block
      lower = omega (arith, lead-use.lower, fd.block)

      known : IsBlock xs next.block
      known = omega (arith, lower, may.block)

      joins-are : used_joins xs b.row ≡ (block_at all next.block).joins
      joins-are = rw fd.block (joins_of-at all (use_at xs all b.row).block)

      next-from : Cue (block_at all next.block) next.from
      next-from = omega (arith, fd.from, led.from-join, joins-are, own_of_at all next.block)

      next-to : Cue (block_at all next.block) next.to
      next-to = omega (arith, fd.to, led.to-join, joins-are, own_of_at all next.block)

      pub may_walk : {rows : List ℕ} {d : ℕ} (w : ℕ) → MayWalk xs m rows d c → MayWalk xs m (set rows d w) (d + 1) next
      may_walk {rows} {d} w may =
          record {
            lead =
                record {
                  block = known;
                  levels = record { long = may.lead.levels.long; at = λ k i j h. may.lead.levels.at k i j (omega (arith, lower)) };
                  from = next-from;
                  to = next-to;
                };
            room = rw (length-set rows d w) may.room;
            short = omega (arith, may.short, lower);
          }

      -- The copy's number of a cue is that of the join which meets it in the part.
      abbrev part : ℕ → Part
      part base = record { of = use_at xs all b.row; base = inner_base xs t c.block base b.row }

      join_is : (base : ℕ) (met : List ℕ) (i x n : ℕ) → i < used_joins xs b.row → get_or (use_at xs all b.row).at i 0 ≡ x → n ≡ join_cue (own_of all next.block) i
          → number (copy_of all next.block (part base).base (meets (copy base met) (part base))) n ≡ number (copy base met) x
      join_is base met i x n h ex en =
          let a : length (use_at xs all b.row).at ≡ used_joins xs b.row = lead-use.good.arity in
          ap₂ (λ (k j : ℕ). number (copy_of all k (part base).base (meets (copy base met) (part base))) j) fd.block
          (en ∙ ap (λ (k : ℕ). join_cue (own_of all k) i) fd.block)
          ∙ join_meets (copy base met) (part base) i (omega arith)
          ∙ ap (number (copy base met)) ex

      -- The rows that lead there, and what is left of the question.
      next-leading : {rows : List ℕ} {s v d : ℕ} (r : Reaches xs t rows s v d c) → d < length rows
          → Leading xs t (set rows d b.row) (r.path ++ step_of t c.block b.row ∷ [])
      next-leading {rows} {s} {v} {d} r room =
          let k : block_on xs rows (length r.path) ≡ c.block = ap (block_on xs rows) r.depth ∙ sym r.block in
          let begin : uses_begin t c.block ≤ b.row = omega (arith, led.row.low, led.row.rows.begin) in
          let takes : Takes t c.block (step_of t c.block b.row) b.row = omega arith in
          rw r.depth at
          (leading-more r.leading (step_of t c.block b.row) b.row (omega (arith, r.depth)) (rw k lead-use) (rw k takes) (rw k begin))

      next-rest : {rows : List ℕ} {s v d : ℕ} (r : Reaches xs t rows s v d c)
          → behind xs s v
          ≡ into_all (r.path ++ step_of t c.block b.row ∷ [])
          (best (origins s v (traced (opening_row xs) all next.block (part r.base).base (meets (copy r.base r.met) (part r.base)))))
      next-rest {rows} {s} {v} {d} r =
          let p : ℕ = step_of t c.block b.row in
          let found : List Origin = origins s v (traced (opening_row xs) all next.block (part r.base).base (meets (copy r.base r.met) (part r.base))) in
          r.rest
          ∙ ap (into_all r.path)
          (ap₂ (λ (a w : ℕ). best (origins a w (traced (opening_row xs) all c.block r.base r.met))) (sym r.from) (sym r.to)
          ∙ goes-best r.base r.met r.sound b eo stay
          ∙ ap₂ (λ (a w : ℕ). into p (best (origins a w (traced (opening_row xs) all (use_at xs all b.row).block (part r.base).base (meets (copy r.base r.met) (part r.base)))))) r.from r.to
          ∙ ap (λ (k : ℕ). into p (best (origins s v (traced (opening_row xs) all k (part r.base).base (meets (copy r.base r.met) (part r.base)))))) (sym fd.block))
          ∙ sym (into_all-snoc r.path p (best found))

      pub goes_on_is : {rows : List ℕ} {s v d : ℕ} (w : ℕ) → d < length rows → w ≡ b.row → Reaches xs t rows s v d c → Reaches xs t (set rows d w) s v (d + 1) next
      goes_on_is {rows} {s} {v} {d} w room ew r =
          let q : Part = part r.base in
          let at : block_on xs (set rows d b.row) (d + 1) ≡ (use_at xs all b.row).block = rw (add-one d) (block-next xs rows d b.row room) in
          rw ew
          (record {
            path = r.path ++ step_of t c.block b.row ∷ [];
            depth = length-append r.path (step_of t c.block b.row ∷ []) ∙ ap (λ (n : ℕ). n + 1) r.depth;
            leading = next-leading r room;
            block = fd.block ∙ sym at;
            base = q.base;
            met = meets (copy r.base r.met) q;
            sound = sound-as fd.block (part_sound r.sound q (row-part g led.row r.base r.met));
            from = join_is r.base r.met b.from c.from next.from led.from-join led.from-cue fd.from ∙ r.from;
            to = join_is r.base r.met b.to c.to next.to led.to-join led.to-cue fd.to ∙ r.to;
            rest = next-rest r;
          })

-- The level of a lead is small, and not none.
pub lead-few : {xs t : List ℕ} (c : Pair) (o : Option Lead) → Loaded xs t → IsBlock xs c.block → BestLead xs t c o
    → IfSome o (λ b. (b.level ≢ 0) × (b.level ≤ max_blocks))
lead-few {xs} {t} c o g h lead = go o lead.lead
  where
    go : (o : Option Lead) → IsLead xs t c lead.end o → IfSome o (λ b. (b.level ≢ 0) × (b.level ≤ max_blocks))
    go None l = tt
    go (Some b) d =
        let u = uses-use g h d.row in
        (d.some, omega (arith, level-small xs (loaded-show g).good _ _ _ _ d.level, u.lower, u.block, (loaded-show g).blocks))

pub found_some : (o : Option ℕ) (n : ℕ) → IsFound o n → IfSome o (λ r. r ≢ 0)
found_some None n e = tt
found_some (Some k) n e = e.0
