-- Rounds over the edges of a use, of rows and of a block.
use Prim.Native.Nat.{ℕ, zero, suc, ◌+◌, ◌*◌, ◌-◌, ◌≤◌, ◌<◌}
use native.Mathlib.Omega.{arith}
use mathlib.Core.Path.{◌≡◌, refl, sym, ◌∙◌, ap}
use mathlib.Core.Bool.{Bool, false}
use mathlib.Core.Logic.{◌⊎◌, inl, inr}
use mathlib.Core.List.{List}
use lib.ListN.{get_or, take, drop}
use Rattle.model.specs.Limits.{summary_size, summary_width, max_followed, max_joins}
use Rattle.model.specs.Blocks.{Link, Block, block_at, joins_of, own_of, blocks_of}
use Rattle.shows.specs.WellFormed.{Cue}
use Rattle.basics.proofs.Members.{get_d_mem}
use Rattle.shows.proofs.AtBlock.{joins-small, own-small}
use Rattle.shows.proofs.BlockAt.{joins_of-at, own_of_at}
use Rattle.distances.specs.Walks.{Price, Linked}
use Rattle.distances.specs.Tells.{met_by, by-link, by-use}
use Rattle.verdicts.specs.Index.{link_at, links_from, use_at, uses_from}
use Rattle.blocks.specs.Loaded.{Loaded, IsBlock, LinkRows, UseRows, column_at, UseRow}
use Rattle.blocks.proofs.Loaded.{mem-links_from, mem-uses_from, links_from-mem, uses_from-mem, loaded-show, own-few, joins-few, link_row, use_row}
use Rattle.searches.specs.Rounds.{orb, Edges, One, Still, Round, quiet}
use Rattle.searches.specs.Starts.{Beginnings, Meets, Started, estimates_size}
use Rattle.searches.specs.Edges.{Span, numbers, UseEdge, Mesh, Between, LinkEdge, Weighs, LinkEnds, UseEdges, BlockEdge, cue_count, MaySettle}
use Rattle.searches.specs.Parts.{part_of}
use Rattle.searches.proofs.Parts.{lent_at}
use Rattle.searches.proofs.Rounds.{lowered_wide, span_begin, round_then, span_on, span_back, round_loops, round_same}

-- By weights of a part, as it is lent: by those from its place on.
mesh_lent : (xs work : List ℕ) (r a m : ℕ) {d e : List ℕ} {c : Bool} → Round (Mesh xs (take summary_size (drop a work)) r 0 m) d c e
    → m ≤ max_joins → Round (Mesh xs work r a m) d c e
unfolding Mesh
mesh_lent xs work r a m o few = round_same lowered_wide (λ u v w i. into u v w i) (λ u v w i. back u v w i) o
  where
    weight : (i j : ℕ) → i < m → j < m
        → get_or (take summary_size (drop a work)) (0 + summary_width * i + j) 0 ≡ get_or work (a + summary_width * i + j) 0
    weight i j hi hj = lent_at summary_size a work (0 + summary_width * i + j) (a + summary_width * i + j) (omega arith) (omega arith)

    into : (u v w : ℕ) → Mesh xs (take summary_size (drop a work)) r 0 m u v w → Mesh xs work r a m u v w
    into u v w (i, j, hi, hj, (eu, ev, ew)) = (i, j, hi, hj, (eu, ev, ew ∙ weight i j hi hj))

    back : (u v w : ℕ) → Mesh xs work r a m u v w → Mesh xs (take summary_size (drop a work)) r 0 m u v w
    back u v w (i, j, hi, hj, (eu, ev, ew)) = (i, j, hi, hj, (eu, ev, ew ∙ sym (weight i j hi hj)))

-- One use, by the row r that names its cues and the weights from place q on.
module _ (xs work : List ℕ) (r q : ℕ) where
  -- A cue's edge to itself improves nothing.
  pub mesh_loop : (m : ℕ) (d : List ℕ) → m < 2 → Round (Mesh xs work r q m) d false d
  unfolding Mesh
  mesh_loop m d h = quiet refl refl still
    where
      still : Still (Mesh xs work r q m) d
      still u v w (i, j, hi, hj, (eu, ev, ew)) =
          let e : i ≡ j = omega arith in
          let s : u ≡ v = eu ∙ ap (λ (k : ℕ). column_at xs r k) e ∙ sym ev in rw s (omega arith)

  -- Two of its cues, as they are read: the edges there and back.
  pub between-both : (i j : ℕ) {a b k l m n x y : ℕ} {d e f : List ℕ} {s c t : Bool} → Round (One a b x) d s e → Round (One b a y) e c f → t ≡ orb s c
      → a ≡ k → k ≡ column_at xs r i → b ≡ l → l ≡ column_at xs r j → x ≡ get_or work m 0 → y ≡ get_or work n 0 → m ≡ q + summary_width * i + j
      → n ≡ q + summary_width * j + i → Round (Between xs work r q i j) d t f
  unfolding Between
  between-both i j {a} {b} {x = x} {y} o o' t ak ek bl el xm yn em en =
      round_then lowered_wide (λ u v w (eu, ev, ew). inl (eu ∙ ea, ev ∙ eb, ew ∙ ex)) (λ u v w (eu, ev, ew). inr (eu ∙ eb, ev ∙ ea, ew ∙ ey))
      (λ u v w l. back u v w l) o o' t
    where
      ea : a ≡ column_at xs r i
      ea = ak ∙ ek

      eb : b ≡ column_at xs r j
      eb = bl ∙ el

      ex : x ≡ get_or work (q + summary_width * i + j) 0
      ex = xm ∙ ap (λ (p : ℕ). get_or work p 0) em

      ey : y ≡ get_or work (q + summary_width * j + i) 0
      ey = yn ∙ ap (λ (p : ℕ). get_or work p 0) en

      back : (u v w : ℕ) → Between xs work r q i j u v w → One a b x u v w ⊎ One b a y u v w
      back u v w (inl (eu, ev, ew)) = inl (eu ∙ sym ea, ev ∙ sym eb, ew ∙ sym ex)
      back u v w (inr (eu, ev, ew)) = inr (eu ∙ sym eb, ev ∙ sym ea, ew ∙ sym ey)

  between-mesh : (m i j : ℕ) → i < m → j < m → (u v w : ℕ) → Between xs work r q i j u v w → Mesh xs work r q m u v w
  unfolding Between Mesh
  between-mesh m i j hi hj u v w (inl o) = (i, j, hi, hj, o)
  between-mesh m i j hi hj u v w (inr o) = (j, i, hj, hi, o)

  -- All edges of a use that names two cues, or three.
  pub mesh_two : {d e : List ℕ} {t : Bool} → Round (Between xs work r q 0 1) d t e → Round (Mesh xs work r q 2) d t e
  unfolding Between Mesh
  mesh_two o = round_loops (between-mesh 2 0 1 (omega arith) (omega arith)) (λ u v w (i, j, hi, hj, o). back u v w i j hi hj o) o
    where
      back : (u v w i j : ℕ) → i < 2 → j < 2 → One (column_at xs r i) (column_at xs r j) (get_or work (q + summary_width * i + j) 0) u v w
          → Between xs work r q 0 1 u v w ⊎ (u ≡ v)
      back u v w zero zero hi hj (eu, ev, ew) = inr (eu ∙ sym ev)
      back u v w zero (suc zero) hi hj o = inl (inl o)
      back u v w (suc zero) zero hi hj o = inl (inr o)
      back u v w (suc zero) (suc zero) hi hj (eu, ev, ew) = inr (eu ∙ sym ev)
      back u v w zero (suc (suc j)) hi hj o = absurd (omega arith)
      back u v w (suc zero) (suc (suc j)) hi hj o = absurd (omega arith)
      back u v w (suc (suc i)) j hi hj o = absurd (omega arith)

  pub mesh_three : {d e f g : List ℕ} {a b c s t : Bool} → Round (Between xs work r q 0 1) d a e → Round (Between xs work r q 0 2) e b f
      → Round (Between xs work r q 1 2) f c g → s ≡ orb a b → t ≡ orb s c → Round (Mesh xs work r q 3) d t g
  unfolding Between Mesh
  mesh_three x y z p o =
      round_loops (λ u v w l. into u v w l) (λ u v w (i, j, hi, hj, l). back u v w i j hi hj l)
      (round_then lowered_wide {X = Three} (λ u v w l. inl l) (λ u v w l. inr l) (λ u v w l. l)
      (round_then lowered_wide {X = λ u v w. B 0 1 u v w ⊎ B 0 2 u v w} (λ u v w l. inl l) (λ u v w l. inr l) (λ u v w l. l) x y p) z o)
    where
      B : ℕ → ℕ → Edges
      B i j u v w = Between xs work r q i j u v w

      Three : Edges
      Three u v w = (B 0 1 u v w ⊎ B 0 2 u v w) ⊎ B 1 2 u v w

      into : (u v w : ℕ) → Three u v w → Mesh xs work r q 3 u v w
      into u v w (inl (inl l)) = between-mesh 3 0 1 (omega arith) (omega arith) u v w l
      into u v w (inl (inr l)) = between-mesh 3 0 2 (omega arith) (omega arith) u v w l
      into u v w (inr l) = between-mesh 3 1 2 (omega arith) (omega arith) u v w l

      back : (u v w i j : ℕ) → i < 3 → j < 3 → One (column_at xs r i) (column_at xs r j) (get_or work (q + summary_width * i + j) 0) u v w
          → Three u v w ⊎ (u ≡ v)
      back u v w zero zero hi hj (eu, ev, ew) = inr (eu ∙ sym ev)
      back u v w zero (suc zero) hi hj l = inl (inl (inl (inl l)))
      back u v w zero (suc (suc zero)) hi hj l = inl (inl (inr (inl l)))
      back u v w (suc zero) zero hi hj l = inl (inl (inl (inr l)))
      back u v w (suc zero) (suc zero) hi hj (eu, ev, ew) = inr (eu ∙ sym ev)
      back u v w (suc zero) (suc (suc zero)) hi hj l = inl (inr (inl l))
      back u v w (suc (suc zero)) zero hi hj l = inl (inl (inr (inr l)))
      back u v w (suc (suc zero)) (suc zero) hi hj l = inl (inr (inr l))
      back u v w (suc (suc zero)) (suc (suc zero)) hi hj (eu, ev, ew) = inr (eu ∙ sym ev)
      back u v w zero (suc (suc (suc j))) hi hj l = absurd (omega arith)
      back u v w (suc zero) (suc (suc (suc j))) hi hj l = absurd (omega arith)
      back u v w (suc (suc zero)) (suc (suc (suc j))) hi hj l = absurd (omega arith)
      back u v w (suc (suc (suc i))) j hi hj l = absurd (omega arith)

  -- By another name for the number of its cues.
  pub mesh_as : {m n : ℕ} {d e : List ℕ} {c : Bool} → Round (Mesh xs work r q n) d c e → m ≡ n → Round (Mesh xs work r q m) d c e
  mesh_as o e = rw e o

module _ {xs t : List ℕ} (g : Loaded xs t) where
  abbrev bs : List Block
  bs = blocks_of xs

  -- A cue of a block has an estimate.
  cue-few : (k c : ℕ) → Cue (block_at bs k) c → c < estimates_size
  cue-few k c h = omega (arith, h, own-small k (loaded-show g).small, joins-small k (loaded-show g).small, own_of_at bs k, joins_of-at bs k)

  -- The cues that the row of a use names, and the edges between them.
  module _ {k r : ℕ} (row : UseRow xs k r) (b m : ℕ) (eb : b ≡ (use_at xs bs r).block) (em : m ≡ joins_of bs b) where
    joins-is : m ≡ joins_of bs (use_at xs bs r).block
    joins-is = em ∙ ap (joins_of bs) eb

    pub row-meets : (n : ℕ) → n ≡ estimates_size → Meets xs r m n
    row-meets n en =
        record {
          there = row.there;
          few = omega (arith, joins-is, joins-small {bs = bs} (use_at xs bs r).block (loaded-show g).small);
          within = λ i h. within i h;
        }
      where
        within : (i : ℕ) → i < m → column_at xs r i < n
        within i h =
            let e : get_or (use_at xs bs r).at i 0 ≡ column_at xs r i = row.columns i (omega (arith, joins-is)) in
            let c : Cue (block_at bs k) (get_or (use_at xs bs r).at i 0) =
            row.good.cues (get_or (use_at xs bs r).at i 0)
            (get_d_mem (use_at xs bs r).at i (omega (arith, joins-is, row.good.arity))) in
            omega (arith, cue-few k (get_or (use_at xs bs r).at i 0) c)

    mesh_use : (work : List ℕ) {d e : List ℕ} {c : Bool} → Round (Mesh xs work r (summary_size * b) m) d c e
        → Round (UseEdge bs work (use_at xs bs r)) d c e
    unfolding Mesh UseEdge
    mesh_use work o = round_same lowered_wide (λ u v w i. into u v w i) (λ u v w i. back u v w i) o
      where
        weight : (i j : ℕ) → get_or work (summary_size * b + summary_width * i + j) 0 ≡ numbers work (use_at xs bs r).block (suc i) (suc j)
        weight i j =
            let z : summary_size * b + summary_width * i + j
            ≡ summary_size * (use_at xs bs r).block + summary_width * (suc i - 1) + (suc j - 1) = omega arith in
            ap (λ (n : ℕ). get_or work n 0) z

        names : (i : ℕ) → i < m → column_at xs r i ≡ met_by (use_at xs bs r) (suc i)
        names i h =
            let s : suc i - 1 ≡ i = omega arith in
            rw s (sym (row.columns i (omega (arith, joins-is))))

        into : (u v w : ℕ) → Mesh xs work r (summary_size * b) m u v w → UseEdge bs work (use_at xs bs r) u v w
        into u v w (i, j, hi, hj, (eu, ev, ew)) =
            (suc i, suc j, omega (arith, joins-is), omega (arith, joins-is), (eu ∙ names i hi, ev ∙ names j hj, ew ∙ weight i j))

        back : (u v w : ℕ) → UseEdge bs work (use_at xs bs r) u v w → Mesh xs work r (summary_size * b) m u v w
        back u v w (i, j, hi, hj, (eu, ev, ew)) =
            let pi : suc (i - 1) ≡ i = omega arith in
            let pj : suc (j - 1) ≡ j = omega arith in
            let li : i - 1 < m = omega (arith, joins-is) in
            let lj : j - 1 < m = omega (arith, joins-is) in (
              i - 1,
              j - 1,
              li,
              lj,
              (eu ∙ sym (rw pi at (names (i - 1) li)), ev ∙ sym (rw pj at (names (j - 1) lj)), ew ∙ sym (rw (pi, pj) at (weight (i - 1) (j - 1)))),
            )

-- The ends of row r of the links of block k have estimates.
pub link-ends : {xs t : List ℕ} {k a z r n l : ℕ} → LinkRows xs k a z → Loaded xs t → n ≡ l → l ≡ estimates_size → IsBlock xs k → a ≤ r → r < z
    → LinkEnds xs r n
link-ends {xs} {k = k} {r = r} rows g e f h lo hi =
    let row = link_row g k h r rows lo hi in
    record {
      there = row.there;
      from = omega (arith, cue-few g k (link_at xs r).from row.good.from);
      to = omega (arith, cue-few g k (link_at xs r).to row.good.to);
    }

-- One link: a note has no edge; one with one price alone has one, of that weight.
pub link-note : (price : Price) (l : Link) {label : ℕ} (d : List ℕ) → label ≡ l.label → max_followed < label
    → ((n w : ℕ) → price n w → n ≤ max_followed) → Round (LinkEdge price l) d false d
unfolding LinkEdge
link-note price l d e h most = quiet refl refl (λ u v w i. absurd (omega (arith, most l.label w i.2)))

-- A link that is followed, by its ends and its label as they are read.
pub link-taken : (price : Price) (l : Link) {x y z p q w label : ℕ} {d e : List ℕ} {c : Bool} → Round (One x y z) d c e → x ≡ p → p ≡ l.from → y ≡ q
    → q ≡ l.to → label ≡ l.label → z ≡ w → Weighs price label w → Round (LinkEdge price l) d c e
unfolding LinkEdge
link-taken price l o ex ep ey eq el ez h =
    let ws : Weighs price l.label _ = rw el at h in
    round_same lowered_wide (λ u v w i. (sym (ex ∙ ep) ∙ sym i.0, sym (ey ∙ eq) ∙ sym i.1, rw (i.2 ∙ ez) ws.is))
    (λ u v w i. (sym i.0 ∙ sym (ex ∙ ep), sym i.1 ∙ sym (ey ∙ eq), ws.only w i.2 ∙ sym ez)) o

-- A round over the link rows from a on and before z; none of them, one more, and all of a block's.
pub record LinksOver (price : Price) (xs : List ℕ) (a z : ℕ) (d : List ℕ) (c : Bool) (e : List ℕ) : Type 0 where
  pub round : Round (Span (λ r. LinkEdge price (link_at xs r)) a z) d c e

module _ {price : Price} {xs : List ℕ} where
  pub links-begin : (a : ℕ) (d : List ℕ) → LinksOver price xs a a d false d
  links-begin a d = record { round = span_begin _ a d }

  pub links-on : {a r : ℕ} {d e f : List ℕ} {s c t : Bool} → LinksOver price xs a r d s e → Round (LinkEdge price (link_at xs r)) e c f → t ≡ orb s c
      → a ≤ r → LinksOver price xs a (r + 1) d t f
  links-on {a} {r} s z o h = record { round = span_on lowered_wide (λ r. LinkEdge price (link_at xs r)) a r h s.round z o }

  pub links-done : {k a z r : ℕ} {d e : List ℕ} {c : Bool} → LinkRows xs k a z → LinksOver price xs a r d c e → r ≤ z → z ≤ r
      → Round (Linked price (block_at (blocks_of xs) k).links) d c e
  unfolding LinkEdge
  links-done {a = a} {z} {r} rows o h g =
      let e : r ≡ z = omega arith in
      rw rows.links (round_same lowered_wide (λ u v w i. into u v w i) (λ u v w i. back u v w i) (rw e at o.round))
    where
      LinkSpan : Edges
      LinkSpan = Span (λ r. LinkEdge price (link_at xs r)) a z

      into : (u v w : ℕ) → LinkSpan u v w → Linked price (links_from xs a (z - a)) u v w
      into u v w (r, h, l, i) =
          let e : a + (r - a) ≡ r = omega arith in
          (link_at xs r, (rw e at (links_from-mem xs a (z - a) (r - a) (omega arith))), i.0, i.1, i.2)

      back : (u v w : ℕ) → Linked price (links_from xs a (z - a)) u v w → LinkSpan u v w
      back u v w (x, m, p, q, o) =
          let i : LinkEdge price x u v w = (p, q, o) in
          let (r, h, l, e) = mem-links_from xs a (z - a) x m in
          (r, h, omega (arith, rows.order), (rw e at i))

-- The same over use rows.
pub record UsesOver (xs work : List ℕ) (a z : ℕ) (d : List ℕ) (c : Bool) (e : List ℕ) : Type 0 where
  pub round : Round (Span (λ r. UseEdge (blocks_of xs) work (use_at xs (blocks_of xs) r)) a z) d c e

module _ {xs work : List ℕ} where
  pub uses-begin : (a : ℕ) (d : List ℕ) → UsesOver xs work a a d false d
  uses-begin a d = record { round = span_begin _ a d }

  pub uses-done : {t : List ℕ} {k a z p q : ℕ} {d e : List ℕ} {c : Bool} → UseRows xs t k a z → UsesOver xs work p q d c e → a ≤ p → p ≤ a → q ≤ z
      → z ≤ q → Round (UseEdges (blocks_of xs) work (block_at (blocks_of xs) k).uses) d c e
  unfolding UseEdges
  uses-done {a = a} {z} {p} {q} rows o la ga lz gz =
      let ep : p ≡ a = omega arith in
      let eq : q ≡ z = omega arith in
      rw rows.uses (round_same lowered_wide (λ u v w i. into u v w i) (λ u v w i. back u v w i) (rw (ep, eq) at o.round))
    where
      UseSpan : Edges
      UseSpan = Span (λ r. UseEdge (blocks_of xs) work (use_at xs (blocks_of xs) r)) a z

      into : (u v w : ℕ) → UseSpan u v w → UseEdges (blocks_of xs) work (uses_from xs (blocks_of xs) a (z - a)) u v w
      into u v w (r, h, l, i) =
          let e : a + (r - a) ≡ r = omega arith in
          (use_at xs (blocks_of xs) r, (rw e at (uses_from-mem xs (blocks_of xs) a (z - a) (r - a) (omega arith))), i)

      back : (u v w : ℕ) → UseEdges (blocks_of xs) work (uses_from xs (blocks_of xs) a (z - a)) u v w → UseSpan u v w
      back u v w (x, m, i) =
          let (r, h, l, e) = mem-uses_from xs (blocks_of xs) a (z - a) x m in (r, h, omega (arith, rows.order), (rw e at i))

-- At row r of a use, which names block b and m cues: what is asked for there, and the round over its edges.
pub used_room : {xs : List ℕ} {k r : ℕ} (b n : ℕ) → UseRow xs k r → b ≡ (use_at xs (blocks_of xs) r).block → summary_size * k ≤ n
    → summary_size * b + summary_size ≤ n
used_room b n row eb room = omega (arith, row.lower)

module _ {xs t : List ℕ} {k r : ℕ} (g : Loaded xs t) (row : UseRow xs k r) {b m : ℕ} (eb : b ≡ (use_at xs (blocks_of xs) r).block)
    (em : m ≡ joins_of (blocks_of xs) b) where
  pub used_meets : {n : ℕ} → n ≡ estimates_size → Meets xs r m n
  used_meets {n} e = row-meets g row b m eb em n e

  pub used_round : (work : List ℕ) {d e : List ℕ} {c : Bool} → Round (Mesh xs (part_of work b) r 0 m) d c e
      → Round (UseEdge (blocks_of xs) work (use_at xs (blocks_of xs) r)) d c e
  used_round work o =
      let meets : Meets xs r m estimates_size = used_meets refl in
      mesh_use g row b m eb em work (mesh_lent xs work r (summary_size * b) m o meets.few)

-- The row of a use of block k, as the code goes over them.
pub use-there : {A : Type 0} {xs t : List ℕ} {w : List A} {k a z : ℕ} (r : ℕ) → MaySettle xs t k w → UseRows xs t k a z → a ≤ r → r < z → UseRow xs k r
use-there {k = k} r may rows lo hi = use_row may.loaded k may.block r rows lo hi

-- One use more; and one more from the last to the first, where those from row p on are passed.
module _ {xs work d e f : List ℕ} {s c o : Bool} where
  pub uses-on : {a r : ℕ} → UsesOver xs work a r d s e → Round (UseEdge (blocks_of xs) work (use_at xs (blocks_of xs) r)) e c f → o ≡ orb s c → a ≤ r
      → UsesOver xs work a (r + 1) d o f
  uses-on {a} {r} so x eo lo =
      record { round = span_on lowered_wide (λ i. UseEdge (blocks_of xs) work (use_at xs (blocks_of xs) i)) a r lo so.round x eo }

  pub uses-back : {p z r : ℕ} → UsesOver xs work p z d s e → Round (UseEdge (blocks_of xs) work (use_at xs (blocks_of xs) r)) e c f → o ≡ orb s c
      → p ≡ r + 1 → p ≤ z → UsesOver xs work r z d o f
  uses-back {p} {z} {r} so x eo ep hi =
      record { round = span_back lowered_wide (λ i. UseEdge (blocks_of xs) work (use_at xs (blocks_of xs) i)) r p z ep hi so.round x eo }

-- A cue of block k has a place among the estimates.
pub cue-there : {A : Type 0} {xs t : List ℕ} {work : List A} {k c n : ℕ} → MaySettle xs t k work → c ≤ cue_count (blocks_of xs) k → n ≡ estimates_size → c < n
cue-there {k = k} may h e = omega (arith, own-few may.loaded k may.block, joins-few may.loaded k may.block)

-- Estimates that are cleared for as many cues as block k has, counted as they are read.
pub started_block : (bs : List Block) (k : ℕ) {inf : ℕ} {S : Beginnings} {d : List ℕ} (o p j : ℕ) → Started inf (o + j) S d → o ≡ p → p ≡ own_of bs k
    → j ≡ joins_of bs k → Started inf (cue_count bs k) S d
started_block bs k o p j s e f h = rw (e ∙ f, h) at s

-- The links and the uses of a block are all its edges.
pub block-round : (price : Price) (bs : List Block) (work : List ℕ) (k : ℕ) {d g h : List ℕ} {s c o : Bool}
    → Round (Linked price (block_at bs k).links) d s g
    → Round (UseEdges bs work (block_at bs k).uses) g c h → o ≡ orb s c → Round (BlockEdge price bs work k) d o h
unfolding UseEdges UseEdge
block-round price bs work k x y o =
    round_then lowered_wide (λ u v w (l, m, eu, ev, ew). by-link l m eu ev ew)
    (λ u v w (p, m, (i, j, hi, hj, (eu, ev, ew))). by-use p m i j hi hj (sym ew) (sym eu) (sym ev)) (λ u v w e. back u v w e) x y o
  where
    back : (u v w : ℕ) → BlockEdge price bs work k u v w → Linked price (block_at bs k).links u v w ⊎ UseEdges bs work (block_at bs k).uses u v w
    back u v w (by-link l m eu ev ew) = inl (l, m, eu, ev, ew)
    back u v w (by-use p m i j hi hj ew eu ev) = inr (p, m, (i, j, hi, hj, (sym eu, sym ev, sym ew)))
