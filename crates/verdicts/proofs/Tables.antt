-- The table of blocks, row by row: what each row puts in keeps what the table says of the blocks so far.
use Prim.Native.Nat.{ℕ, zero, suc, ◌+◌, ◌*◌, ◌-◌, ◌≤◌, ◌<◌}
use native.Mathlib.Omega.{arith}
use native.Mathlib.Decide.{ℕ_discrete, dec_lt}
use mathlib.Core.Path.{◌≡◌, refl, sym, ◌∙◌, ap}
use mathlib.Core.Logic.{◌≢◌}
use mathlib.Core.List.{List, [], ◌∷◌, ◌++◌}
use lib.ListN.{length, get_or, set, length-set, replicate, length-replicate}
use lib.Seq.{get_or-set_same, get_or-set_other}
use borrow.Author.Tests.{eq-eqb, ne_eqb}
use Rattle.model.specs.Limits.{max_own, max_blocks, max_total}
use Rattle.model.specs.Rows.{cell}
use Rattle.model.specs.Blocks.{Link, Use, Block, block_at, sum_over, total}
use Rattle.basics.proofs.Choices.{lt_then, lt_else}
use Rattle.shows.proofs.AtBlock.{block_at_hit, block_at_skip, total-hit, total-skip}
use Rattle.verdicts.specs.Index.{index_size, link_at, links_from, use_at, uses_from, block_from}
use Rattle.verdicts.specs.Passing.{capped, put_at, open_indexed}

-- Numbers put into the table.
module _ (t : List ℕ) (i v : ℕ) where
  put_in : i < index_size → put_at t i v ≡ set t i v
  unfolding put_at
  put_in h = lt_then _ _ _ _ h

  put-out : index_size ≤ i → put_at t i v ≡ t
  unfolding put_at
  put-out h = lt_else _ _ _ _ h

  put-length : length (put_at t i v) ≡ length t
  put-length = go (dec_lt i index_size)
    where
      go : Dec (i < index_size) → length (put_at t i v) ≡ length t
      go (yes h) = rw (put_in h) (length-set t i v)
      go (no h) = rw (put-out (omega arith))

  put_same : length t ≡ index_size → i < index_size → get_or (put_at t i v) i 0 ≡ v
  put_same e h = rw (put_in h) (get_or-set_same t i v 0 (omega arith))

  pub put_other : (j : ℕ) → j ≢ i → get_or (put_at t i v) j 0 ≡ get_or t j 0
  put_other j n = go (dec_lt i index_size)
    where
      go : Dec (i < index_size) → get_or (put_at t i v) j 0 ≡ get_or t j 0
      go (yes h) = rw (put_in h) (get_or-set_other t i j v 0 n)
      go (no h) = rw (put-out (omega arith))

-- A total held to its largest, and a sum of two.
pub capped-fit : (n : ℕ) → n ≤ max_total → capped n ≡ n
unfolding capped
capped-fit n h = lt_else _ _ _ _ h

pub capped-over : (n : ℕ) → max_total < n → capped n ≡ max_total + 1
unfolding capped
capped-over n h = lt_then _ _ _ _ h

capped-sum : (a b : ℕ) → capped (capped a + capped b) ≡ capped (a + b)
capped-sum a b = go (dec_lt max_total a) (dec_lt max_total b)
  where
    go : Dec (max_total < a) → Dec (max_total < b) → capped (capped a + capped b) ≡ capped (a + b)
    go (yes h) d = capped-over _ (omega (arith, capped-over a h)) ∙ sym (capped-over _ (omega arith))
    go (no h) (yes k) = capped-over _ (omega (arith, capped-over b k)) ∙ sym (capped-over _ (omega arith))
    go (no h) (no k) = rw (capped-fit a (omega arith), capped-fit b (omega arith))

-- One more link, one more use.
links-more : (xs : List ℕ) (r n : ℕ) → links_from xs r (suc n) ≡ links_from xs r n ++ (link_at xs (r + n) ∷ [])
unfolding links_from
links-more xs r zero = let e : r + 0 ≡ r = omega arith in rw e
links-more xs r (suc n) =
    let e : r + 1 + n ≡ r + suc n = omega arith in
    ap (λ (l : List Link). link_at xs r ∷ l) (rw e at (links-more xs (r + 1) n))

uses-more : (xs : List ℕ) (bs : List Block) (r n : ℕ) → uses_from xs bs r (suc n) ≡ uses_from xs bs r n ++ (use_at xs bs (r + n) ∷ [])
unfolding uses_from
uses-more xs bs r zero = let e : r + 0 ≡ r = omega arith in rw e
uses-more xs bs r (suc n) =
    let e : r + 1 + n ≡ r + suc n = omega arith in
    ap (λ (l : List Use). use_at xs bs r ∷ l) (rw e at (uses-more xs bs (r + 1) n))

sum-snoc : (f : ℕ → ℕ) (us : List Use) (u : Use) → sum_over f (us ++ (u ∷ [])) ≡ sum_over f us + f u.block
unfolding sum_over
sum-snoc f [] u = omega arith
sum-snoc f (v ∷ us) u = omega (arith, sum-snoc f us u)

-- What the table t says of block k, where r rows were read: b is the block and tot its total. all are the blocks of all rows, in which
-- the joins of the blocks so far are what they are now.
pub record Entry (xs : List ℕ) (all : List Block) (t : List ℕ) (r k : ℕ) (b : Block) (tot : ℕ) : Type 0 where
  pub opens : get_or t (k * 4) 0 < get_or t (k * 4 + 1) 0
  pub links : get_or t (k * 4 + 1) 0 ≤ get_or t (k * 4 + 2) 0
  pub ends : get_or t (k * 4 + 2) 0 ≤ r
  pub block : b ≡ block_from xs all (get_or t (k * 4) 0) (get_or t (k * 4 + 1) 0) (get_or t (k * 4 + 2) 0)
  pub total : get_or t (k * 4 + 3) 0 ≡ capped tot

-- Another table that agrees at the block's four places.
entry_same : (xs : List ℕ) (all : List Block) (t t' : List ℕ) (r k : ℕ) (b : Block) (tot : ℕ) → ((c : ℕ) → c < 4 → get_or t' (k * 4 + c) 0 ≡ get_or t (k * 4 + c) 0)
    → Entry xs all t r k b tot → Entry xs all t' (suc r) k b tot
entry_same xs all t t' r k b tot h e =
    record {
      opens = rw (first, h 1 (omega arith)) e.opens;
      links = rw (h 1 (omega arith), h 2 (omega arith)) e.links;
      ends = rw (h 2 (omega arith)) (omega (arith, e.ends));
      block = rw (first, h 1 (omega arith), h 2 (omega arith)) e.block;
      total = rw (h 3 (omega arith)) e.total;
    }
  where
    first : get_or t' (k * 4) 0 ≡ get_or t (k * 4) 0
    first = let z : k * 4 + 0 ≡ k * 4 = omega arith in rw z at (h 0 (omega arith))

-- What the table says of the blocks of the first r rows, the last of which has the kind given.
pub record TableFor (xs : List ℕ) (all : List Block) (t : List ℕ) (r : ℕ) (bs : List Block) (kind : ℕ) : Type 0 where
  pub size : length t ≡ index_size
  pub each : (k : ℕ) → k < length bs → Entry xs all t r k (block_at bs k) (total bs k)
  pub last : (m : ℕ) → length bs ≡ suc m → get_or t (m * 4 + 2) 0 ≡ r
  pub unused : (m : ℕ) → length bs ≡ suc m → kind < 2 → get_or t (m * 4 + 1) 0 ≡ r

pub table-start : (xs : List ℕ) (all : List Block) → TableFor xs all (replicate index_size 0) 0 [] 0
table-start xs all =
    record { size = length-replicate {A = ℕ} index_size 0; each = λ k h. absurd (omega arith); last = λ m e. absurd (omega arith); unused = λ m e. absurd (omega arith) }

-- What an opening puts in at a place a.
module _ (t : List ℕ) (a r own : ℕ) (size : length t ≡ index_size) (room : a + 3 < index_size) where
  abbrev t₁ : List ℕ
  t₁ = put_at t a r

  abbrev t₂ : List ℕ
  t₂ = put_at t₁ (a + 1) (r + 1)

  abbrev t₃ : List ℕ
  t₃ = put_at t₂ (a + 2) (r + 1)

  size₁ : length t₁ ≡ index_size
  size₁ = put-length t a r ∙ size

  size₂ : length t₂ ≡ index_size
  size₂ = put-length t₁ (a + 1) (r + 1) ∙ size₁

  size₃ : length t₃ ≡ index_size
  size₃ = put-length t₂ (a + 2) (r + 1) ∙ size₂

  open_size : length (open_indexed t a r own) ≡ index_size
  unfolding open_indexed
  open_size = put-length t₃ (a + 3) own ∙ size₃

  pub open_first : get_or (open_indexed t a r own) a 0 ≡ r
  unfolding open_indexed
  open_first =
      put_other t₃ (a + 3) own a (λ e. omega arith) ∙ put_other t₂ (a + 2) (r + 1) a (λ e. omega arith)
      ∙ put_other t₁ (a + 1) (r + 1) a (λ e. omega arith) ∙ put_same t a r size (omega arith)

  open_links : get_or (open_indexed t a r own) (a + 1) 0 ≡ r + 1
  unfolding open_indexed
  open_links =
      put_other t₃ (a + 3) own (a + 1) (λ e. omega arith) ∙ put_other t₂ (a + 2) (r + 1) (a + 1) (λ e. omega arith)
      ∙ put_same t₁ (a + 1) (r + 1) size₁ (omega arith)

  open_uses : get_or (open_indexed t a r own) (a + 2) 0 ≡ r + 1
  unfolding open_indexed
  open_uses = put_other t₃ (a + 3) own (a + 2) (λ e. omega arith) ∙ put_same t₂ (a + 2) (r + 1) size₂ (omega arith)

  open_total : get_or (open_indexed t a r own) (a + 3) 0 ≡ own
  unfolding open_indexed
  open_total = put_same t₃ (a + 3) own size₃ room

  pub open_other : (j : ℕ) → j < a → get_or (open_indexed t a r own) j 0 ≡ get_or t j 0
  unfolding open_indexed
  open_other j h =
      put_other t₃ (a + 3) own j (λ e. omega arith) ∙ put_other t₂ (a + 2) (r + 1) j (λ e. omega arith)
      ∙ put_other t₁ (a + 1) (r + 1) j (λ e. omega arith) ∙ put_other t a r j (λ e. omega arith)

-- An opening.
module _ (xs : List ℕ) (all : List Block) (t : List ℕ) (r : ℕ) (bs : List Block) (kind : ℕ) (T : TableFor xs all t r bs kind) where
  abbrev pub opened : Block
  opened = record { joins = cell xs r 2; own = cell xs r 3; links = []; uses = [] }

  opened-from : opened ≡ block_from xs all r (r + 1) (r + 1)
  unfolding block_from links_from uses_from
  opened-from = let e : r + 1 - (r + 1) ≡ 0 = omega arith in rw e

  opened-total : total (opened ∷ bs) (length bs) ≡ cell xs r 3
  unfolding sum_over
  opened-total = total-hit opened bs (length bs) (eq-eqb (length bs) (length bs) refl) ∙ omega arith

  module _ (room : length bs < max_blocks) (small : cell xs r 3 ≤ max_own) where
    abbrev pub t' : List ℕ
    t' = open_indexed t (length bs * 4) r (cell xs r 3)

    fits : length bs * 4 + 3 < index_size
    fits = omega arith

    new-entry : Entry xs all t' (suc r) (length bs) (block_at (opened ∷ bs) (length bs)) (total (opened ∷ bs) (length bs))
    new-entry =
        let f = open_first t (length bs * 4) r (cell xs r 3) T.size fits in
        let u = open_links t (length bs * 4) r (cell xs r 3) T.size fits in
        let e = open_uses t (length bs * 4) r (cell xs r 3) T.size fits in
        let o = open_total t (length bs * 4) r (cell xs r 3) T.size fits in
        record {
          opens = rw (f, u) (omega arith);
          links = rw (u, e) (omega arith);
          ends = rw e (omega arith);
          block = rw (f, u, e, block_at_hit opened bs (length bs) (eq-eqb (length bs) (length bs) refl)) opened-from;
          total = rw (o, opened-total) (sym (capped-fit _ (omega arith)));
        }

    old-entry : (k : ℕ) → k < length bs → Entry xs all t' (suc r) k (block_at (opened ∷ bs) k) (total (opened ∷ bs) k)
    old-entry k h =
        let n = ne_eqb k (length bs) (λ e. omega arith) in
        rw (block_at_skip opened bs k n, total-skip opened bs k n)
        (entry_same xs all t _ r k _ _ (λ c l. open_other t (length bs * 4) r (cell xs r 3) T.size fits (k * 4 + c) (omega arith)) (T.each k h))

    pub open_table : TableFor xs all t' (suc r) (opened ∷ bs) 0
    open_table =
        record {
          size = open_size t (length bs * 4) r (cell xs r 3) T.size fits;
          each = λ k h. at k h (ℕ_discrete k (length bs));
          last = λ m e. let q : m ≡ length bs = omega arith in rw q (open_uses t (length bs * 4) r (cell xs r 3) T.size fits ∙ omega arith);
          unused = λ m e h. let q : m ≡ length bs = omega arith in rw q (open_links t (length bs * 4) r (cell xs r 3) T.size fits ∙ omega arith);
        }
      where
        at : (k : ℕ) → k < suc (length bs) → Dec (k ≡ length bs) → Entry xs all t' (suc r) k (block_at (opened ∷ bs) k) (total (opened ∷ bs) k)
        at k h (yes e) = rw e new-entry
        at k h (no n) = old-entry k (omega arith)

-- A link or a use of the current block b, which is the first of the list.
module _ (xs : List ℕ) (all : List Block) (t : List ℕ) (r : ℕ) (b : Block) (earlier : List Block) (kind : ℕ) (T : TableFor xs all t r (b ∷ earlier) kind)
    (room : length earlier < max_blocks) where
  abbrev c : ℕ
  c = length earlier

  -- The current block's rows so far.
  current : Entry xs all t r c b (total (b ∷ earlier) c)
  current = rw (block_at_hit b earlier c (eq-eqb c c refl)) at (T.each c (omega arith))

  ended : get_or t (c * 4 + 2) 0 ≡ r
  ended = T.last c refl

  -- The blocks behind it stay as they are.
  behind : (b' : Block) (t' : List ℕ) → ((j : ℕ) → j < c * 4 → get_or t' j 0 ≡ get_or t j 0) → (k : ℕ) → k < c
      → Entry xs all t' (suc r) k (block_at (b' ∷ earlier) k) (total (b' ∷ earlier) k)
  behind b' t' h k l =
      let n = ne_eqb k c (λ e. omega arith) in
      let old : Entry xs all t r k (block_at earlier k) (total earlier k) =
      rw (block_at_skip b earlier k n, total-skip b earlier k n) at (T.each k (omega arith)) in
      rw (block_at_skip b' earlier k n, total-skip b' earlier k n)
      (entry_same xs all t t' r k _ _ (λ d x. h (k * 4 + d) (omega arith)) old)

  -- All blocks, from the current one and those behind it.
  joined : (b' : Block) (t' : List ℕ) (tot : ℕ) → total (b' ∷ earlier) c ≡ tot → Entry xs all t' (suc r) c b' tot
      → ((j : ℕ) → j < c * 4 → get_or t' j 0 ≡ get_or t j 0)
      → (k : ℕ) → k < suc c → Entry xs all t' (suc r) k (block_at (b' ∷ earlier) k) (total (b' ∷ earlier) k)
  joined b' t' tot q e h k l = at (ℕ_discrete k c)
    where
      at : Dec (k ≡ c) → Entry xs all t' (suc r) k (block_at (b' ∷ earlier) k) (total (b' ∷ earlier) k)
      at (yes p) = rw (p, block_at_hit b' earlier c (eq-eqb c c refl), q) e
      at (no n) = behind b' t' h k (omega arith)

  -- A link.
  module _ (before : kind < 2) where
    abbrev l₁ : List ℕ
    l₁ = put_at t (c * 4 + 2) (r + 1)

    abbrev l₂ : List ℕ
    l₂ = put_at l₁ (c * 4 + 1) (r + 1)

    abbrev pub linked : Block
    linked = record { joins = b.joins; own = b.own; links = b.links ++ (link_at xs r ∷ []); uses = b.uses }

    l_size : length l₁ ≡ index_size
    l_size = put-length t (c * 4 + 2) (r + 1) ∙ T.size

    l_first : get_or l₂ (c * 4) 0 ≡ get_or t (c * 4) 0
    l_first = put_other l₁ (c * 4 + 1) (r + 1) (c * 4) (λ e. omega arith) ∙ put_other t (c * 4 + 2) (r + 1) (c * 4) (λ e. omega arith)

    l_links : get_or l₂ (c * 4 + 1) 0 ≡ r + 1
    l_links = put_same l₁ (c * 4 + 1) (r + 1) l_size (omega arith)

    l_ends : get_or l₂ (c * 4 + 2) 0 ≡ r + 1
    l_ends = put_other l₁ (c * 4 + 1) (r + 1) (c * 4 + 2) (λ e. omega arith) ∙ put_same t (c * 4 + 2) (r + 1) T.size (omega arith)

    l_total : get_or l₂ (c * 4 + 3) 0 ≡ get_or t (c * 4 + 3) 0
    l_total = put_other l₁ (c * 4 + 1) (r + 1) (c * 4 + 3) (λ e. omega arith) ∙ put_other t (c * 4 + 2) (r + 1) (c * 4 + 3) (λ e. omega arith)

    l_other : (j : ℕ) → j < c * 4 → get_or l₂ j 0 ≡ get_or t j 0
    l_other j h = put_other l₁ (c * 4 + 1) (r + 1) j (λ e. omega arith) ∙ put_other t (c * 4 + 2) (r + 1) j (λ e. omega arith)

    linked-total : total (linked ∷ earlier) c ≡ total (b ∷ earlier) c
    linked-total = total-hit linked earlier c (eq-eqb c c refl) ∙ sym (total-hit b earlier c (eq-eqb c c refl))

    opening : ℕ
    opening = get_or t (c * 4) 0

    from-rows : (f : ℕ) → f < r → b ≡ block_from xs all f r r → linked ≡ block_from xs all f (r + 1) (r + 1)
    unfolding block_from uses_from
    from-rows f h e =
        let x : r + 1 - (f + 1) ≡ suc (r - (f + 1)) = omega arith in
        let y : f + 1 + (r - (f + 1)) ≡ r = omega arith in
        let z : r - r ≡ 0 = omega arith in
        let z' : r + 1 - (r + 1) ≡ 0 = omega arith in
        rw (e, x, links-more xs (f + 1) (r - (f + 1)), y, z, z')

    link-entry : Entry xs all l₂ (suc r) c linked (total (b ∷ earlier) c)
    link-entry =
        let u : get_or t (c * 4 + 1) 0 ≡ r = T.unused c refl before in
        let f : get_or t (c * 4) 0 < r = omega (arith, current.opens) in
        let w : b ≡ block_from xs all (get_or t (c * 4) 0) r r = rw (u, ended) at current.block in
        record {
          opens = rw (l_first, l_links) (omega arith);
          links = rw (l_links, l_ends) (omega arith);
          ends = rw l_ends (omega arith);
          block = rw (l_first, l_links, l_ends) (from-rows (get_or t (c * 4) 0) f w);
          total = l_total ∙ current.total;
        }

    pub link-table : TableFor xs all l₂ (suc r) (linked ∷ earlier) 1
    link-table =
        record {
          size = put-length l₁ (c * 4 + 1) (r + 1) ∙ l_size;
          each = joined linked l₂ (total (b ∷ earlier) c) linked-total link-entry l_other;
          last = λ m e. let q : m ≡ c = omega arith in rw q (l_ends ∙ omega arith);
          unused = λ m e h. let q : m ≡ c = omega arith in rw q (l_links ∙ omega arith);
        }

  -- A use of a lower block, whose joins stay as they are.
  module _ (label : ℕ) (lower : label < length earlier) (at : List ℕ) (fits : at ≡ (use_at xs all r).at) (named : label ≡ cell xs r 2) where
    abbrev u₁ : List ℕ
    u₁ = put_at t (c * 4 + 2) (r + 1)

    abbrev pub used : Block
    used = record { joins = b.joins; own = b.own; links = b.links; uses = b.uses ++ (record { block = label; at = at } ∷ []) }

    abbrev sum : ℕ
    sum = capped (get_or u₁ (c * 4 + 3) 0 + get_or u₁ (label * 4 + 3) 0)

    abbrev pub u₂ : List ℕ
    u₂ = put_at u₁ (c * 4 + 3) sum

    u_size : length u₁ ≡ index_size
    u_size = put-length t (c * 4 + 2) (r + 1) ∙ T.size

    u_same : (j : ℕ) → j ≢ c * 4 + 3 → j ≢ c * 4 + 2 → get_or u₂ j 0 ≡ get_or t j 0
    u_same j n m = put_other u₁ (c * 4 + 3) sum j n ∙ put_other t (c * 4 + 2) (r + 1) j m

    u_ends : get_or u₂ (c * 4 + 2) 0 ≡ r + 1
    u_ends = put_other u₁ (c * 4 + 3) sum (c * 4 + 2) (λ e. omega arith) ∙ put_same t (c * 4 + 2) (r + 1) T.size (omega arith)

    lower-total : get_or u₁ (label * 4 + 3) 0 ≡ capped (total earlier label)
    lower-total =
        let n = ne_eqb label c (λ e. omega arith) in
        put_other t (c * 4 + 2) (r + 1) (label * 4 + 3) (λ e. omega arith)
        ∙ (T.each label (omega arith)).total ∙ ap capped (total-skip b earlier label n)

    own-total : get_or u₁ (c * 4 + 3) 0 ≡ capped (total (b ∷ earlier) c)
    own-total = put_other t (c * 4 + 2) (r + 1) (c * 4 + 3) (λ e. omega arith) ∙ current.total

    used_total : total (used ∷ earlier) c ≡ total (b ∷ earlier) c + total earlier label
    used_total =
        total-hit used earlier c (eq-eqb c c refl)
        ∙ omega (arith, total-hit b earlier c (eq-eqb c c refl), sum-snoc (total earlier) b.uses (record { block = label; at = at }))

    u_total : get_or u₂ (c * 4 + 3) 0 ≡ capped (total (b ∷ earlier) c + total earlier label)
    u_total = put_same u₁ (c * 4 + 3) sum u_size (omega arith) ∙ rw (own-total, lower-total) (capped-sum _ _)

    used_rows : (f u : ℕ) → u ≤ r → b ≡ block_from xs all f u r → used ≡ block_from xs all f u (r + 1)
    unfolding block_from use_at
    used_rows f u h e =
        let x : r + 1 - u ≡ suc (r - u) = omega arith in
        let y : u + (r - u) ≡ r = omega arith in
        rw (e, fits, named, x, uses-more xs all u (r - u), y)

    use_entry : Entry xs all u₂ (suc r) c used (total (b ∷ earlier) c + total earlier label)
    use_entry =
        let f = u_same (c * 4) (λ e. omega arith) (λ e. omega arith) in
        let u = u_same (c * 4 + 1) (λ e. omega arith) (λ e. omega arith) in
        let w : b ≡ block_from xs all (get_or t (c * 4) 0) (get_or t (c * 4 + 1) 0) r = rw ended at current.block in
        record {
          opens = rw (f, u) current.opens;
          links = rw (u, u_ends) (omega (arith, current.links, ended));
          ends = rw u_ends (omega arith);
          block = rw (f, u, u_ends) (used_rows (get_or t (c * 4) 0) (get_or t (c * 4 + 1) 0) (omega (arith, current.links, ended)) w);
          total = u_total;
        }

    pub use_table : TableFor xs all u₂ (suc r) (used ∷ earlier) 2
    use_table =
        record {
          size = put-length u₁ (c * 4 + 3) sum ∙ u_size;
          each = joined used u₂ (total (b ∷ earlier) c + total earlier label) used_total use_entry (λ j h. u_same j (λ e. omega arith) (λ e. omega arith));
          last = λ m e. let q : m ≡ c = omega arith in rw q (u_ends ∙ omega arith);
          unused = λ m e h. absurd (omega arith);
        }
