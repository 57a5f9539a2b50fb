-- Demand 3 for the definitions: the search by fronts finds the length of the shortest chain, in every list of links whose cues are
-- counted, in an unfolded show and in a block's own unfolding; and the summaries are these lengths.
use Prim.Native.Nat.{ℕ, zero, suc, ◌+◌, ◌≤◌, ◌<◌}
use native.Mathlib.Omega.{arith}
use native.Mathlib.Decide.{ℕ_discrete, dec_lt, dec_le}
use mathlib.Core.Path.{◌≡◌, refl, sym, ◌∙◌, ap}
use mathlib.Core.Bool.{Bool, true, false, false≢true, cond}
use mathlib.Core.Logic.{◌⊎◌, inl, inr, ◌≢◌}
use mathlib.Core.List.Memᴰ
use mathlib.Core.List.{
  List,
  [],
  ◌∷◌,
  Memᴰ,
}
use lib.Dec.{T, eqb, ltb}
use borrow.Author.Tests.{eqb-true, eq-eqb, lt-ltb, le-ltb}
use Rattle.model.specs.Choice.{if_lt}
use Rattle.model.specs.Limits.{no_chain}
use Rattle.model.specs.Blocks.{Link, Block, joins_of, total, last_block, count}
use Rattle.model.specs.Unfolding.{show_links}
use Rattle.model.specs.Chains.{followed, Distance, Far, Unreachable, is_in, successors, search_from, fewest}
use Rattle.model.specs.Lists.{range}
use Rattle.model.specs.Summaries.{Search, block_links, or_none, summary, summary_by}
use Rattle.shows.specs.WellFormed.{Good}
use Rattle.distances.specs.Demand.{Chain, here, link, NoChain, Shortest, Summarised}
use Rattle.distances.proofs.Chains.{chain-append, chain-nought, chain-last}
use Rattle.distances.proofs.Pigeonhole.{chain_shorten}
use Rattle.basics.proofs.Members.{range_length, range-mem, range-bounds}
use Rattle.shows.proofs.Ranges.{Within, inner, join, links-within}

-- The test says whether v is a member.
pub is_in-mem : (v : ℕ) (xs : List ℕ) → is_in v xs ≡ true → Memᴰ v xs
unfolding is_in
is_in-mem v [] h = absurd (false≢true h)
is_in-mem v (x ∷ xs) h = go (λ h. is_in-mem v xs h) (eqb v x) refl
  where
    go : (is_in v xs ≡ true → Memᴰ v xs) → (b : Bool) → eqb v x ≡ b → Memᴰ v (x ∷ xs)
    go below true e = Memᴰ.head (eqb-true v x e)
    go below false e = Memᴰ.tail (below (rw (e, is_in) at h))

pub mem-is_in : (v : ℕ) {xs : List ℕ} → Memᴰ v xs → is_in v xs ≡ true
unfolding is_in
mem-is_in v (Memᴰ.head {x = x} {xs = xs} e) = rw (eq-eqb v x e, is_in)
mem-is_in v (Memᴰ.tail {x = x} {xs = xs} i) = go (mem-is_in v i) (eqb v x) refl
  where
    go : is_in v xs ≡ true → (b : Bool) → eqb v x ≡ b → is_in v (x ∷ xs) ≡ true
    go h true d = rw (d, is_in)
    go h false d = rw (d, is_in) h

-- A cue is in the successors exactly if a link leads to it from one of the cues.
pub successors-has : (E : List Link) (cs : List ℕ) (v : ℕ) → Memᴰ v (successors E cs)
    → (l : Link) × Memᴰ l E × Memᴰ l.from cs × (l.to ≡ v)
unfolding successors
successors-has [] cs v i = absurd (Memᴰ.not-nil i)
successors-has (l ∷ ls) cs v i = go (λ j. successors-has ls cs v j) (is_in l.from cs) refl
  where
    Has : List Link → Type 0
    Has ms = (k : Link) × Memᴰ k ms × Memᴰ k.from cs × (k.to ≡ v)

    later : Has ls → Has (l ∷ ls)
    later (k, j, m, e) = (k, Memᴰ.tail j, m, e)

    go : (Memᴰ v (successors ls cs) → Has ls) → (b : Bool) → is_in l.from cs ≡ b → Has (l ∷ ls)
    go below false e = later (below (rw (e, successors) at i))
    go below true e = at (Memᴰ.cases_cons (rw (e, successors) at i))
      where
        at : (v ≡ l.to) ⊎ Memᴰ v (successors ls cs) → Has (l ∷ ls)
        at (inl p) = (l, Memᴰ.head refl, is_in-mem l.from cs e, sym p)
        at (inr j) = later (below j)

pub successors-from : (l : Link) {E : List Link} (cs : List ℕ) → Memᴰ l E → Memᴰ l.from cs → Memᴰ l.to (successors E cs)
unfolding successors
successors-from l cs (Memᴰ.head {x = k} {xs = ks} e) m =
    let h : is_in k.from cs ≡ true = mem-is_in k.from (rw e at m) in
    rw (h, successors) (Memᴰ.head (ap (λ (q : Link). q.to) e))
successors-from l cs (Memᴰ.tail {x = k} {xs = ks} i) m = go (successors-from l cs i m) (is_in k.from cs) refl
  where
    go : Memᴰ l.to (successors ks cs) → (b : Bool) → is_in k.from cs ≡ b → Memᴰ l.to (successors (k ∷ ks) cs)
    go j true e = rw (e, successors) (Memᴰ.tail j)
    go j false e = rw (e, successors) j

-- A front: cs are the cues that chains of n links lead to.
pub record Front (E : List Link) (s n : ℕ) (cs : List ℕ) : Type 0 where
  pub sound : (v : ℕ) → Memᴰ v cs → Chain E v s n
  pub full : (v : ℕ) → Chain E v s n → Memᴰ v cs

pub front_first : {E : List Link} (s : ℕ) → Front E s 0 (s ∷ [])
front_first s =
    record { sound = λ v i. rw (Memᴰ.eq_of_singleton i) here; full = λ v c. Memᴰ.head (sym (chain-nought c refl)) }

pub front_next : {E : List Link} {s n : ℕ} (cs : List ℕ) → Front E s n cs → Front E s (suc n) (successors E cs)
front_next {E} {s} {n} cs f = record { sound = λ v i. sound v (successors-has E cs v i); full = λ v c. full v (chain-last c) }
  where
    sound : (v : ℕ) → (l : Link) × Memᴰ l E × Memᴰ l.from cs × (l.to ≡ v) → Chain E v s (suc n)
    sound v (l, i, m, e) =
        let k : n + 1 ≡ suc n = omega arith in
        rw (e, k) at (chain-append (f.sound l.from m) (link l i here))

    full : (v : ℕ) → (l : Link) × Memᴰ l E × Chain E l.from s n × (l.to ≡ v) → Memᴰ v (successors E cs)
    full v (l, i, c, e) = rw e at (successors-from l cs i (f.full l.from c))

-- No chain from s to t has fewer than n links.
abbrev pub NoneBelow : List Link → ℕ → ℕ → ℕ → Type 0
NoneBelow E s t n = (m : ℕ) → m < n → Chain E t s m → ⊥

-- What an answer says, case by case.
abbrev pub RightDistance : List Link → ℕ → ℕ → Distance → Type 0
RightDistance E s t (Far n) = Chain E t s n × NoneBelow E s t n
RightDistance E s t Unreachable = NoChain E s t

-- The search from a front on is right, if any chain has one that it would come to.
search_right : (E : List Link) (s t many n : ℕ) (cs : List ℕ) → Front E s n cs → NoneBelow E s t n
    → (NoneBelow E s t (n + many) → NoChain E s t) → RightDistance E s t (search_from E t many n cs)
unfolding search_from
search_right E s t zero n cs f low all = all (λ m h. low m (omega arith))
search_right E s t (suc many) n cs f low all =
    go (λ low. search_right E s t many (suc n) (successors E cs) (front_next cs f) low (λ g. all (λ m h. g m (omega arith)))) (is_in t cs) refl
  where
    none-at : is_in t cs ≡ false → NoneBelow E s t (suc n)
    none-at e m h c = at (ℕ_discrete m n)
      where
        at : Dec (m ≡ n) → ⊥
        at (yes q) = let x : T (is_in t cs) = rw (mem-is_in t (f.full t (rw q at c))) tt in rw e at x
        at (no q) = low m (omega arith) c

    go : (NoneBelow E s t (suc n) → RightDistance E s t (search_from E t many (suc n) (successors E cs))) → (b : Bool) → is_in t cs ≡ b
        → RightDistance E s t (search_from E t (suc many) n cs)
    go below true e = rw (e, search_from) (f.sound t (is_in-mem t cs e), low)
    go below false e = rw (e, search_from) (below (none-at e))

-- The start of each link lies in 1 .. cues.
abbrev pub Starts : List Link → ℕ → Type 0
Starts E cues = (l : Link) → Memᴰ l E → (1 ≤ l.from) × (l.from ≤ cues)

-- Every chain to one of the cues can be cut to one with fewer links than there are cues.
pub below-cues : {E : List Link} (cues : ℕ) {s t n : ℕ} → Starts E cues → 1 ≤ t → t ≤ cues → Chain (followed E) t s n
    → (m : ℕ) × Chain (followed E) t s m × (m ≤ n) × (m < cues)
below-cues {E} cues {s} {t} {n} starts low high c =
    let (m, d, h, k) = chain_shorten (range 1 cues) (λ l i. range-mem 1 cues l.from (starts l i).0 (omega (arith, (starts l i).1)))
    (range-mem 1 cues t low (omega arith)) c in
    (m, d, h, omega (arith, range_length 1 cues))

pub fewest-right : (E : List Link) (cues s t : ℕ) → Starts E cues → 1 ≤ t → t ≤ cues → RightDistance (followed E) s t (fewest E cues s t)
unfolding fewest
fewest-right E cues s t starts low high =
    search_right (followed E) s t cues 0 (s ∷ []) (front_first s) (λ m g. absurd (omega arith))
    (λ g m c. let (k, d, h, l) = below-cues {E = E} cues starts low high c in g k (omega arith) d)

-- The number of an answer, and 0 for none; whether it is a number.
number_of : Distance → ℕ
number_of (Far n) = n
number_of Unreachable = 0

is_number : Distance → Bool
is_number (Far n) = true
is_number Unreachable = false

pub far_same : {n m : ℕ} → Far n ≡ Far m → n ≡ m
unfolding number_of
far_same e = ap number_of e

pub far_not : {n : ℕ} → Far n ≡ Unreachable → ⊥
unfolding is_number
far_not e = false≢true (sym (ap is_number e))

-- A right answer is the shortest.
pub right-shortest : (E : List Link) (s t : ℕ) (d : Distance) → RightDistance E s t d → Shortest E s t d
right-shortest E s t (Far n) (c, low) =
    record {
      chain = λ m e. rw (far_same e) at c;
      found = λ m d. (n, refl);
      least = λ m k e d. least m k (far_same e) d (dec_le m k);
      none = λ e. absurd (far_not e);
      lost = λ h. absurd (h n c);
      still = λ e. chain-nought c (far_same e);
      stays = λ e. ap Far (stays e (dec_lt 0 n));
    }
  where
    least : (m k : ℕ) → n ≡ m → Chain E t s k → Dec (m ≤ k) → m ≤ k
    least m k e d (yes h) = h
    least m k e d (no h) = absurd (low k (omega arith) d)

    stays : s ≡ t → Dec (0 < n) → n ≡ 0
    stays e (yes h) = absurd (low 0 h (rw e here))
    stays e (no h) = omega arith
right-shortest E s t Unreachable none =
    record {
      chain = λ m e. absurd (far_not (sym e));
      found = λ m d. absurd (none m d);
      least = λ m k e d. absurd (none k d);
      none = λ e. none;
      lost = λ h. refl;
      still = λ e. absurd (far_not (sym e));
      stays = λ e. absurd (none 0 (rw e here));
    }

-- Demand 3 where the cues are 1 .. cues: the answer is the length of the shortest chain.
pub fewest-shortest : (E : List Link) (cues s t : ℕ) → Starts E cues → 1 ≤ t → t ≤ cues
    → Shortest (followed E) s t (fewest E cues s t)
fewest-shortest E cues s t starts low high =
    right-shortest (followed E) s t (fewest E cues s t) (fewest-right E cues s t starts low high)

-- And it is less than the number of cues.
pub fewest-below : (E : List Link) (cues s t n : ℕ) → Starts E cues → 1 ≤ t → t ≤ cues → fewest E cues s t ≡ Far n → n < cues
fewest-below E cues s t n starts low high e =
    let r : Shortest (followed E) s t (fewest E cues s t) = fewest-shortest E cues s t starts low high in
    let (m, d, h, l) = below-cues {E = E} cues starts low high (r.chain n e) in
    omega (arith, r.least n m e d)

-- The cues of an unfolded show are 1 .. count, and those of a block's own unfolding 1 .. total + joins.
module _ (bs : List Block) (good : Good bs) where
  module _ (closed : joins_of bs (last_block bs) ≡ 0) where
    pub show_ends : (l : Link) → Memᴰ l (show_links bs)
        → ((1 ≤ l.from) × (l.from ≤ count bs)) × ((1 ≤ l.to) × (l.to ≤ count bs))
    unfolding show_links count
    show_ends l i = let (x, y) = links-within bs good (last_block bs) 0 [] (sym closed) l i in (at l.from x, at l.to y)
      where
        at : (v : ℕ) → Within 0 (total bs (last_block bs)) [] v → (1 ≤ v) × (v ≤ total bs (last_block bs))
        at v (inner x y) = omega arith
        at v (join i) = absurd (Memᴰ.not-nil i)

    -- Demand 3 for shows.
    pub show_shortest : (s t : ℕ) → 1 ≤ t → t ≤ count bs → Shortest (followed (show_links bs)) s t (fewest (show_links bs) (count bs) s t)
    show_shortest s t low high = fewest-shortest (show_links bs) (count bs) s t (λ l i. (show_ends l i).0) low high

  module _ (k : ℕ) where
    pub block-ends : (l : Link) → Memᴰ l (block_links bs k)
        → ((1 ≤ l.from) × (l.from ≤ total bs k + joins_of bs k)) × ((1 ≤ l.to) × (l.to ≤ total bs k + joins_of bs k))
    unfolding block_links
    block-ends l i =
        let (x, y) = links-within bs good k 0 (range (suc (total bs k)) (joins_of bs k)) (range_length (suc (total bs k)) (joins_of bs k)) l i in
        (at l.from x, at l.to y)
      where
        at : (v : ℕ) → Within 0 (total bs k) (range (suc (total bs k)) (joins_of bs k)) v → (1 ≤ v) × (v ≤ total bs k + joins_of bs k)
        at v (inner x y) = omega arith
        at v (join i) = omega (arith, range-bounds (suc (total bs k)) (joins_of bs k) v i)

    module _ (i j : ℕ) (low : 1 ≤ j) (high : j ≤ joins_of bs k) where
      pub block-right : RightDistance (followed (block_links bs k)) (total bs k + i) (total bs k + j)
          (fewest (block_links bs k) (total bs k + joins_of bs k) (total bs k + i) (total bs k + j))
      block-right =
          fewest-right (block_links bs k) (total bs k + joins_of bs k) (total bs k + i) (total bs k + j) (λ l i. (block-ends l i).0)
          (omega arith) (omega arith)

      pub block-shortest : Shortest (followed (block_links bs k)) (total bs k + i) (total bs k + j)
          (fewest (block_links bs k) (total bs k + joins_of bs k) (total bs k + i) (total bs k + j))
      block-shortest = right-shortest _ _ _ _ block-right

      pub block-below : (n : ℕ) → fewest (block_links bs k) (total bs k + joins_of bs k) (total bs k + i) (total bs k + j) ≡ Far n
          → n < total bs k + joins_of bs k
      block-below n e =
          fewest-below (block_links bs k) (total bs k + joins_of bs k) (total bs k + i) (total bs k + j) n (λ l i. (block-ends l i).0)
          (omega arith) (omega arith) e

-- Summaries where the block lacks a join, and where it has both.
pub summary-lacks : (find : Search) (bs : List Block) (k i j : ℕ) → (joins_of bs k < i) ⊎ (joins_of bs k < j) → summary_by find bs k i j ≡ no_chain
unfolding summary_by if_lt
summary-lacks find bs k i j (inl h) = rw (lt-ltb (joins_of bs k) i h) refl
summary-lacks find bs k i j (inr h) = rw (lt-ltb (joins_of bs k) j h) (go (ltb (joins_of bs k) i))
  where
    go : (t : Bool) → cond t no_chain no_chain ≡ no_chain
    go true = refl
    go false = refl

pub summary-has : (find : Search) (bs : List Block) (k i j : ℕ) → i ≤ joins_of bs k → j ≤ joins_of bs k
    → summary_by find bs k i j ≡ or_none (find (block_links bs k) (total bs k + joins_of bs k) (total bs k + i) (total bs k + j))
unfolding summary_by if_lt
summary-has find bs k i j x y = rw (le-ltb (joins_of bs k) i x, le-ltb (joins_of bs k) j y) refl

pub summary-far : (bs : List Block) (k i j n : ℕ) → i ≤ joins_of bs k → j ≤ joins_of bs k
    → fewest (block_links bs k) (total bs k + joins_of bs k) (total bs k + i) (total bs k + j) ≡ Far n → summary bs k i j ≡ n
unfolding or_none
summary-far bs k i j n x y e = summary-has fewest bs k i j x y ∙ ap or_none e

pub summary-none : (bs : List Block) (k i j : ℕ) → i ≤ joins_of bs k → j ≤ joins_of bs k
    → fewest (block_links bs k) (total bs k + joins_of bs k) (total bs k + i) (total bs k + j) ≡ Unreachable → summary bs k i j ≡ no_chain
unfolding or_none
summary-none bs k i j x y e = summary-has fewest bs k i j x y ∙ ap or_none e

-- The summaries are what document 01 says of them, where no total is too large.
module _ (bs : List Block) (good : Good bs) (k i j : ℕ) (small : total bs k + joins_of bs k ≤ no_chain) (low : 1 ≤ j) where
  has-joins : summary bs k i j ≢ no_chain → Dec (i ≤ joins_of bs k) → Dec (j ≤ joins_of bs k) → (i ≤ joins_of bs k) × (j ≤ joins_of bs k)
  has-joins h (no x) d = absurd (h (summary-lacks fewest bs k i j (inl (omega arith))))
  has-joins h (yes x) (no y) = absurd (h (summary-lacks fewest bs k i j (inr (omega arith))))
  has-joins h (yes x) (yes y) = (x, y)

  module _ (x : i ≤ joins_of bs k) (y : j ≤ joins_of bs k) where
    abbrev here-fewest : Distance
    here-fewest = fewest (block_links bs k) (total bs k + joins_of bs k) (total bs k + i) (total bs k + j)

    has-shortest : Shortest (followed (block_links bs k)) (total bs k + i) (total bs k + j) here-fewest
    has-shortest = block-shortest bs good k i j low y

    has-chain : summary bs k i j ≢ no_chain → Chain (followed (block_links bs k)) (total bs k + j) (total bs k + i) (summary bs k i j)
    has-chain h = go here-fewest refl
      where
        go : (d : Distance) → here-fewest ≡ d → Chain (followed (block_links bs k)) (total bs k + j) (total bs k + i) (summary bs k i j)
        go (Far n) e = rw (summary-far bs k i j n x y e) (has-shortest.chain n e)
        go Unreachable e = absurd (h (summary-none bs k i j x y e))

    has-least : (m : ℕ) → Chain (followed (block_links bs k)) (total bs k + j) (total bs k + i) m
        → (summary bs k i j ≤ m) × (summary bs k i j < no_chain)
    has-least m c =
        let (n, e) = has-shortest.found m c in
        omega (arith, summary-far bs k i j n x y e, has-shortest.least n m e c, block-below bs good k i j low y n e)

  pub summary-right : Summarised (followed (block_links bs k)) (total bs k) (joins_of bs k) i j (summary bs k i j)
  summary-right =
      record {
        lacking = λ h. summary-lacks fewest bs k i j h;
        lost = λ h. lost h (dec_le i (joins_of bs k)) (dec_le j (joins_of bs k));
        none = λ e x y m c. absurd (omega (arith, has-least x y m c));
        joined = λ h. has-joins h (dec_le i (joins_of bs k)) (dec_le j (joins_of bs k));
        chain = λ h. let (x, y) = has-joins h (dec_le i (joins_of bs k)) (dec_le j (joins_of bs k)) in has-chain x y h;
        least = λ x y m c. has-least x y m c;
        itself = λ x e.
            let y : j ≤ joins_of bs k = omega arith in
            summary-far bs k i j 0 x y ((has-shortest x y).stays (ap (λ (c : ℕ). total bs k + c) e));
      }
    where
      lost : NoChain (followed (block_links bs k)) (total bs k + i) (total bs k + j) → Dec (i ≤ joins_of bs k) → Dec (j ≤ joins_of bs k)
          → summary bs k i j ≡ no_chain
      lost h (no x) d = summary-lacks fewest bs k i j (inl (omega arith))
      lost h (yes x) (no y) = summary-lacks fewest bs k i j (inr (omega arith))
      lost h (yes x) (yes y) = summary-none bs k i j x y ((has-shortest x y).lost h)
