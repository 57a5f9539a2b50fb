-- Laws of filling the table.
use Prim.Native.Nat.{ℕ, suc, ◌+◌, ◌*◌, ◌-◌, ◌/◌, ◌%◌, ◌≤◌, ◌<◌}
use native.Mathlib.Omega.{arith}
use native.Mathlib.Decide.{ℕ_discrete, dec_lt}
use mathlib.Core.Path.{◌≡◌, refl, sym, ◌∙◌, ap}
use mathlib.Core.Logic.{◌↔◌, ◌⊎◌, inl, inr}
use mathlib.Core.List.Memᴰ
use mathlib.Core.List.{List, [], ◌∷◌, ◌++◌, Memᴰ}
use lib.ListN.{length, get_or, take, drop, set, length-set, replicate, length-replicate, get_or-replicate, get_or-eq_default}
use lib.Seq.{paste, length-take-le, get_or-take, get_or-set_same, get_or-set_other}
use Rattle.std.proofs.lemmas.List.{get_or_append_left, get_or-append_right, get_or-drop}
use Rattle.std.proofs.lemmas.List.Edits.{paste_all, length-paste}
use Rattle.std.proofs.lemmas.Slice.{put_mid-paste}
use borrow.Rule.Slice.PartMut.{put_mid}
use Rattle.model.specs.Limits.{max_joins, max_own}
use Rattle.model.specs.Blocks.{Use, Block, block_at, joins_of, own_of, blocks_of}
use Rattle.shows.proofs.AtBlock.{joins-small, own-small}
use Rattle.shows.proofs.BlockAt.{own_of_at}
use Rattle.basics.proofs.Choices.{lt_then, lt_else}
use Rattle.verdicts.specs.Index.{use_at, uses_from, links_from}
use Rattle.blocks.specs.Loaded.{Loaded, IsBlock, LinkRows, UseRows, UseRow, IsJoinAt}
use Rattle.blocks.proofs.Loaded.{loaded-show, joins-few, uses_from-snoc}
use Rattle.blocks.proofs.Meeting.{use_arity, use_only, use_apart}
use Rattle.neighbours.specs.declared.Ask.{Ask}
use Rattle.neighbours.specs.Near.{Flag, Near, ByUses, UseMarked, UsesMarked, KnownOwn, Exact, Done, DoneUse, DoneUses, Table, RecordsKept, Settled, UseStep, UsesStep, MarksStep, RecordMade}
use Rattle.neighbours.specs.Records.{record_size, block_size, inside_at, bits_at, record_at, bit_at, own_bit, mark_of, On, HasMark, Added}
use Rattle.neighbours.specs.Picks.{Picked}
use Rattle.neighbours.proofs.Marks.{added-like, uses-begin, uses-on, use_no, near_all}
use Rattle.neighbours.proofs.Near.{Right, known_own_near, exact-join, exact_same}

-- The first bytes of s stand in w from `at` on, and what is outside a record there is as it was in
-- m.
pub record Copied (s : List ℕ) (many at : ℕ) (m w : List ℕ) : Type 0 where
  pub long : length w ≡ length m
  pub before : (x : ℕ) → x < at → get_or w x 0 ≡ get_or m x 0
  pub behind : (x : ℕ) → at + record_size ≤ x → get_or w x 0 ≡ get_or m x 0
  pub put : (j : ℕ) → j < many → get_or w (at + j) 0 ≡ get_or s j 0

-- The bytes of a record, put in the place of a part of the table.
copied : (s part m : List ℕ) (at n : ℕ) → part ≡ s → n ≡ record_size → length s ≡ record_size → at + record_size ≤ length m → Copied s record_size at m (put_mid at n m part)
copied s part m at n is e l room =
    rw (put_mid-paste at n m part s record_size is (sym e) (sym l))
    (record {
      long = length-paste m at s record_size room (omega arith);
      before = λ x h. rw whole (get_or_append_left (take at m) _ 0 x (omega (arith, head)) ∙ get_or-take at m x 0 h);
      behind = λ x h. rw whole (get_or-append_right (take at m) _ at x 0 head (omega arith) ∙ get_or-append_right s _ record_size (x - at) 0 l (omega arith) ∙ get_or-drop (at + record_size) m (x - at - record_size) 0 ∙ ap (λ n. get_or m n 0) (omega arith));
      put = λ j h. rw whole (get_or-append_right (take at m) _ at (at + j) 0 head (omega arith) ∙ get_or_append_left s _ 0 (at + j - at) (omega arith) ∙ ap (λ n. get_or s n 0) (omega arith));
    })
  where
    whole : paste m at s record_size ≡ take at m ++ (s ++ drop (at + record_size) m)
    whole = paste_all m at s record_size (sym l)

    head : length (take at m) ≡ at
    head = length-take-le at m (omega arith)

-- A join of a block of the show is one of eight.
pub join_few : (xs t : List ℕ) (g : Loaded xs t) (k i : ℕ) → IsBlock xs k → i < joins_of (blocks_of xs) k → i < max_joins
join_few xs t g k i h l = omega (arith, l, joins-few g k h)

pub record_copied : (s part m : List ℕ) (k i n : ℕ) → part ≡ s → n ≡ record_at k i + record_size - record_at k i → length s ≡ record_size
    → block_size * k + block_size ≤ length m → i < max_joins → Copied s record_size (record_at k i) m (put_mid (record_at k i) n m part)
record_copied s part m k i n is e l room h = copied s part m (record_at k i) n is (omega arith) l (omega arith)

pub written-long : (s : List ℕ) (at : ℕ) (m₁ w m : List ℕ) (n x : ℕ) → Copied s record_size at m₁ w → length m₁ ≡ length m → length (set w n x) ≡ length m
written-long s at m₁ w m n x c e = length-set w n x ∙ c.long ∙ e

-- The bits of a record that was copied.
copied_bit : (s : List ℕ) (at : ℕ) (v : List ℕ) (own d : ℕ) → ((n : ℕ) → n < 32 → get_or v (at + bits_at + n) 0 ≡ get_or s (9 + n) 0) → 1 ≤ d → d ≤ own → own ≤ max_own
    → own_bit v (at + bits_at) d ≡ mark_of own s d
unfolding own_bit mark_of
copied_bit s at v own d put x y h =
    ap (λ (b : ℕ). bit_at b ((d - 1) % 8)) (put ((d - 1) / 8) (omega arith)) ∙ sym (lt_else own d (get_or s (d - own - 1) 0) _ y)

pub mark_of_join : (own j : ℕ) (s : List ℕ) → mark_of own s (own + 1 + j) ≡ get_or s j 0
unfolding mark_of
mark_of_join own j s =
    let e : own + 1 + j - own - 1 ≡ j = omega arith in
    lt_then own (own + 1 + j) _ _ (omega arith) ∙ ap (λ n. get_or s n 0) e

-- Two records lie apart.
apart : (k i j a n : ℕ) → i < max_joins → a < max_joins → n < record_size → (j ≡ k → a ≡ i → ⊥) → (record_at j a + n < record_at k i) ⊎ (record_at k i + record_size ≤ record_at j a + n)
apart k i j a n hi ha hn ne = go (dec_lt j k) (dec_lt k j) (dec_lt a i) (dec_lt i a)
  where
    go : Dec (j < k) → Dec (k < j) → Dec (a < i) → Dec (i < a) → (record_at j a + n < record_at k i) ⊎ (record_at k i + record_size ≤ record_at j a + n)
    go (yes x) y z v = inl (omega arith)
    go (no x) (yes y) z v = inr (omega arith)
    go (no x) (no y) (yes z) v = inl (omega arith)
    go (no x) (no y) (no z) (yes v) = inr (omega arith)
    go (no x) (no y) (no z) (no v) = absurd (ne (omega arith) (omega arith))

-- Records that are made stay.
pub kept_same : (m : List ℕ) → RecordsKept m m
kept_same m = record { at = λ k i n h l d. refl }

done-kept : {m w : List ℕ} → RecordsKept m w → (k i : ℕ) → i < max_joins → Done m k i → Done w k i
done-kept kept k i h d z = d (sym (kept.at k i inside_at h (omega arith) d) ∙ z)

pub kept_on : {a b c : List ℕ} → RecordsKept a b → RecordsKept b c → RecordsKept a c
kept_on x y = record { at = λ k i n h l d. y.at k i n h l (done-kept x k i h d) ∙ x.at k i n h l d }

uses-kept : {m w : List ℕ} {c : ℕ} {us : List Use} → RecordsKept m w → DoneUses m c us → DoneUses w c us
uses-kept {m} {w} {c} {us} kept d =
    record { at = λ u i. record { few = (d.at u i).few; at = λ n l e. done-kept kept u.block n (omega (arith, (d.at u i).few)) ((d.at u i).at n l e) } }

-- The marks of some uses, by a table that has the same flags for them.
by_uses_same : {a b : List ℕ} {c : ℕ} {us : List Use}
    → ((u : Use) → Memᴰ u us → (i j : ℕ) → i < length u.at → j < length u.at → get_or u.at i 0 ≡ c
    → get_or b (record_at u.block i + j) 0 ≡ get_or a (record_at u.block i + j) 0)
    → (d : ℕ) → ByUses a us c d → ByUses b us c d
by_uses_same same d p =
    let o = p.by in
    record {
      use_of = p.use_of;
      member = p.member;
      by = record {
        i = o.i;
        j = o.j;
        in_i = o.in_i;
        in_j = o.in_j;
        at_i = o.at_i;
        at_j = o.at_j;
        flag = same p.use_of p.member o.i o.j o.in_i o.in_j o.at_i ∙ o.flag;
      };
    }

-- And by a table in which the same records are made.
module _ {m w : List ℕ} {c : ℕ} {us : List Use} (kept : RecordsKept m w) (d : DoneUses m c us) where
  flag_same : (u : Use) → Memᴰ u us → (i n : ℕ) → i < length u.at → get_or u.at i 0 ≡ c → n < record_size
      → get_or w (record_at u.block i + n) 0 ≡ get_or m (record_at u.block i + n) 0
  flag_same u j i n h e l = kept.at u.block i n (omega (arith, (d.at u j).few)) l ((d.at u j).at i h e)

  marked-kept : {own : ℕ} {s v : List ℕ} → UsesMarked own m us c s v → UsesMarked own w us c s v
  marked-kept {own} {s} {v} x =
      record {
        added = added-like s v x.added (by_uses_same (λ u p i j a b e. same u p i j a b e)) (by_uses_same (λ u p i j a b e. sym (same u p i j a b e)));
        quiet = λ n. record { at = λ u j. record { at = λ i h e f. ((x.quiet n).at u j).at i h e (sym (flag_same u j i inside_at h e (omega arith)) ∙ f) } };
      }
    where
      same : (u : Use) → Memᴰ u us → (i j : ℕ) → i < length u.at → j < length u.at → get_or u.at i 0 ≡ c
          → get_or w (record_at u.block i + j) 0 ≡ get_or m (record_at u.block i + j) 0
      same u p i j a b e = flag_same u p i j a e (omega (arith, (d.at u p).few))

-- The uses of rows.
module _ (xs : List ℕ) (q : Ask) (a own c : ℕ) (m s : List ℕ) where
  abbrev us : ℕ → List Use
  us n = uses_from xs (blocks_of xs) a n

  pub uses_step_begin : Table q (blocks_of xs) m → UsesStep q (blocks_of xs) own c (us (a - a)) m s m s
  unfolding uses_from
  uses_step_begin t =
      let e : a - a ≡ 0 = omega arith in
      record {
        marked = uses-begin xs m a own c s;
        table = t;
        kept = kept_same m;
        done = record { at = λ u i. absurd (Memᴰ.not-nil (rw e at i)) };
      }

  pub uses_step_on : (r : ℕ) (m₁ m₂ w v : List ℕ) → a ≤ r → UsesStep q (blocks_of xs) own c (us (r - a)) m s m₁ w
      → UseStep q (blocks_of xs) own c (use_at xs (blocks_of xs) r) m₁ w m₂ v → UsesStep q (blocks_of xs) own c (us (r + 1 - a)) m s m₂ v
  uses_step_on r m₁ m₂ w v h x y =
      record {
        marked = uses-on xs m₂ a own c s r w v h (marked-kept y.kept x.done x.marked) y.marked;
        table = y.table;
        kept = kept_on x.kept y.kept;
        done = record { at = λ u i. go u (Memᴰ.append_cases (us (r - a)) (rw next at i)) };
      }
    where
      next : us (r + 1 - a) ≡ us (r - a) ++ use_at xs (blocks_of xs) r ∷ []
      next =
          let e : r + 1 - a ≡ suc (r - a) = omega arith in
          let f : a + (r - a) ≡ r = omega arith in
          rw (e, uses_from-snoc xs (blocks_of xs) a (r - a), f) refl

      go : (u : Use) → Memᴰ u (us (r - a)) ⊎ Memᴰ u (use_at xs (blocks_of xs) r ∷ []) → DoneUse m₂ c u
      go u (inl i) = (uses-kept y.kept x.done).at u i
      go u (inr i) = let e : u ≡ use_at xs (blocks_of xs) r = Memᴰ.eq_of_singleton i in rw e y.done

pub uses_step_done : (xs t : List ℕ) (q : Ask) (k a e r own c : ℕ) (m s w v : List ℕ) → UseRows xs t k a e → r ≤ e → e ≤ r
    → UsesStep q (blocks_of xs) own c (uses_from xs (blocks_of xs) a (r - a)) m s w v → UsesStep q (blocks_of xs) own c (block_at (blocks_of xs) k).uses m s w v
uses_step_done xs t q k a e r own c m s w v rows i j b = let z : r ≡ e = omega arith in rw rows.uses (rw z at b)

pub use_step_long : {q : Ask} {bs : List Block} {own c : ℕ} {u : Use} (m s w v : List ℕ) (n : ℕ) → UseStep q bs own c u m s w v → length s ≡ n → length v ≡ n
use_step_long m s w v n a e = a.marked.added.long ∙ e

-- All rows of a block.
pub zero-long : (s : List ℕ) → s ≡ replicate record_size 0 → length s ≡ record_size
zero-long s z = ap length z ∙ length-replicate {A = ℕ} record_size 0

pub marks_step_done : (xs : List ℕ) (q : Ask) (k a e own c : ℕ) (m m₁ s w v : List ℕ) → s ≡ replicate record_size 0 → LinkRows xs k a e
    → own ≡ own_of (blocks_of xs) k → own ≤ max_own → Added own (Picked q (links_from xs a (e - a)) c) s w
    → UsesStep q (blocks_of xs) own c (block_at (blocks_of xs) k).uses m w m₁ v → MarksStep q (blocks_of xs) k c m m₁ v
marks_step_done xs q k a e own c m m₁ s w v z rows eo few p r =
    record {
      marks = near_all xs m₁ q k a e own c w v rows eo few (rw z at p) r.marked;
      ready = record { table = r.table; done = r.done };
      kept = r.kept;
    }

-- The use of a row: the record of the join that meets the cue was made.
module _ (xs m w : List ℕ) (q : Ask) (k r own c j joins i : ℕ) (o : UseRow xs k r) (y : j ≡ (use_at xs (blocks_of xs) r).block)
    (n : joins ≡ joins_of (blocks_of xs) j) (few : joins ≤ max_joins) (p : IsJoinAt xs r joins c i) where
  abbrev u : Use
  u = use_at xs (blocks_of xs) r

  pub use_step_made : (s v : List ℕ) → i < joins → RecordMade q (blocks_of xs) j i m w → UseMarked own w u c s v → UseStep q (blocks_of xs) own c u m s w v
  use_step_made s v h made marked =
      record {
        marked = marked;
        table = made.table;
        kept = made.kept;
        done = record {
          few = omega (arith, use_arity o y n p);
          at = λ a l e.
              let z : a ≡ i = use_only o y n p a h l e in
              rw (z, ← y) made.done;
        };
      }

  pub use_step_none : (s : List ℕ) → Table q (blocks_of xs) m → joins ≤ i → UseStep q (blocks_of xs) own c u m s m s
  use_step_none s tab h =
      record {
        marked = use_no xs k r c j joins i o y n p m own s h;
        table = tab;
        kept = kept_same m;
        done = record {
          few = omega (arith, use_arity o y n p);
          at = λ a l e. absurd (use_apart o y n p a h l e);
        };
      }

-- A record that is there already, and one that is made.
pub record_made_before : (q : Ask) (bs : List Block) (k i known : ℕ) (m : List ℕ) → Table q bs m → known ≡ get_or m (record_at k i + inside_at) 0 → 0 < known → RecordMade q bs k i m m
record_made_before q bs k i known m tab e h = record { table = tab; kept = kept_same m; done = λ z. absurd (omega arith) }

pub record_made_now : (xs t : List ℕ) (g : Loaded xs t) (q : Ask) (k i c own known x : ℕ) (m m₁ s w : List ℕ) → i < joins_of (blocks_of xs) k
    → known ≡ get_or m (record_at k i + inside_at) 0 → known ≤ 0 → own ≡ own_of (blocks_of xs) k → own ≤ max_own → c ≡ own + 1 + i
    → MarksStep q (blocks_of xs) k c m m₁ s → Copied s record_size (record_at k i) m₁ w → Settled (get_or s inside_at 0) x → block_size * k + block_size ≤ length m₁
    → RecordMade q (blocks_of xs) k i m (set w (record_at k i + inside_at) x)
record_made_now xs t g q k i c own known x m m₁ s w h ek zk eo small ec step copied set-x room =
    record {
      table = record {
        exact = λ j a l d. exact-all j a l d (ℕ_discrete j k) (ℕ_discrete a i);
        closed = λ j a l d. closed_all j a l d (ℕ_discrete j k) (ℕ_discrete a i);
      };
      kept = record { at = λ j a n ha l d. other j a n ha l (not-this j a d) ∙ step.kept.at j a n ha l d };
      done = made;
    }
  where
    bs : List Block
    bs = blocks_of xs

    few : (j : ℕ) → joins_of bs j ≤ max_joins
    few j = joins-small j (loaded-show g).small

    v : List ℕ
    v = set w (record_at k i + inside_at) x

    own_is : own ≡ (block_at bs k).own
    own_is = eo ∙ own_of_at bs k

    cue : c ≡ (block_at bs k).own + 1 + i
    cue = omega (arith, own_is)

    last : get_or v (record_at k i + inside_at) 0 ≡ x
    last = get_or-set_same w (record_at k i + inside_at) x 0 (omega (arith, copied.long, few k))

    made : Done v k i
    made z = set-x.made (sym last ∙ z)

    other : (j a n : ℕ) → a < max_joins → n < record_size → (j ≡ k → a ≡ i → ⊥) → get_or v (record_at j a + n) 0 ≡ get_or m₁ (record_at j a + n) 0
    other j a n ha l ne = go (apart k i j a n (omega (arith, few k)) ha l ne)
      where
        go : (record_at j a + n < record_at k i) ⊎ (record_at k i + record_size ≤ record_at j a + n) → get_or v (record_at j a + n) 0 ≡ get_or m₁ (record_at j a + n) 0
        go (inl y) = get_or-set_other w (record_at k i + inside_at) (record_at j a + n) x 0 (λ e. omega arith) ∙ copied.before (record_at j a + n) y
        go (inr y) = get_or-set_other w (record_at k i + inside_at) (record_at j a + n) x 0 (λ e. omega arith) ∙ copied.behind (record_at j a + n) y

    not-this : (j a : ℕ) → Done m j a → j ≡ k → a ≡ i → ⊥
    not-this j a d e f = d (rw (e, f) (sym ek ∙ omega arith))

    byte : (n : ℕ) → n < record_size → (n ≡ inside_at → ⊥) → get_or v (record_at k i + n) 0 ≡ get_or s n 0
    byte n l z = get_or-set_other w (record_at k i + inside_at) (record_at k i + n) x 0 (λ e. z (omega arith)) ∙ copied.put n l

    unset : (Flag v k i inside_at → ⊥) → get_or s inside_at 0 ≡ 1 → ⊥
    unset n e = n (last ∙ set-x.set e)

    bit : (d : ℕ) → 1 ≤ d → d ≤ (block_at bs k).own → own_bit v (record_at k i + bits_at) d ≡ mark_of (block_at bs k).own s d
    bit d y z =
        copied_bit s (record_at k i) v (block_at bs k).own d
        (λ n l. (let e : record_at k i + bits_at + n ≡ record_at k i + (9 + n) = omega arith in rw e (byte (9 + n) (omega arith) (λ f. omega arith)))) y z (omega (arith, own_is))

    flag : (j : ℕ) → j < joins_of bs k → get_or v (record_at k i + j) 0 ≡ mark_of (block_at bs k).own s ((block_at bs k).own + 1 + j)
    flag j l = byte j (omega (arith, few k)) (λ e. omega (arith, few k)) ∙ sym (mark_of_join (block_at bs k).own j s)

    at_mark : (d : ℕ) → HasMark (block_at bs k).own d → On (block_at bs k).own s d ↔ Near q m₁ (block_at bs k) ((block_at bs k).own + 1 + i) d
    at_mark d l = rw cue at (step.marks.at d l)

    right : Right q bs m₁ v k i
    right =
        record {
          bits = λ d y z. (λ f. (at_mark d (y, omega arith)).0 (sym (bit d y z) ∙ f), λ n. bit d y z ∙ (at_mark d (y, omega arith)).1 n);
          across = λ j l. (λ f. (at_mark ((block_at bs k).own + 1 + j) (omega arith, omega (arith, few k))).0 (sym (flag j l) ∙ f), λ y. flag j l ∙ (at_mark ((block_at bs k).own + 1 + j) (omega arith, omega (arith, few k))).1 y);
          own = λ n d a z y. unset n (step.marks.coarse.at d a z ((at_mark d (a, omega arith)).1 y));
          uses = λ n u j y l e. ((step.marks.quiet (unset n)).at u j).at y l (e ∙ sym cue);
        }

    exact-here : Exact q bs v k i
    exact-here = exact-join q bs m₁ v k i (rw cue at step.ready) h right

    before : (j a : ℕ) → a < max_joins → (j ≡ k → a ≡ i → ⊥) → Done v j a → Done m₁ j a
    before j a ha ne d z = d (other j a inside_at ha (omega arith) ne ∙ z)

    still : (j a : ℕ) → a < max_joins → Done m₁ j a → Dec (j ≡ k) → Dec (a ≡ i) → Done v j a
    still j a ha d (yes e) (yes f) = rw (e, f) made
    still j a ha d (no n) f = λ z. d (sym (other j a inside_at ha (omega arith) (λ e y. n e)) ∙ z)
    still j a ha d (yes e) (no n) = λ z. d (sym (other j a inside_at ha (omega arith) (λ y f. n f)) ∙ z)

    uses-still : (c : ℕ) (zs : List Use) → DoneUses m₁ c zs → DoneUses v c zs
    uses-still c zs d =
        record {
          at = λ u j. record {
            few = (d.at u j).few;
            at = λ n l e. still u.block n (omega (arith, (d.at u j).few)) ((d.at u j).at n l e) (ℕ_discrete u.block k) (ℕ_discrete n i);
          };
        }

    exact-else : (j a : ℕ) → a < joins_of bs j → Done v j a → (j ≡ k → a ≡ i → ⊥) → Exact q bs v j a
    exact-else j a l d ne =
        exact_same q bs m₁ v j a (own-small j (loaded-show g).small) (few j) (λ n y. other j a n (omega (arith, few j)) y ne)
        (step.ready.table.exact j a l (before j a (omega (arith, few j)) ne d))

    exact-all : (j a : ℕ) → a < joins_of bs j → Done v j a → Dec (j ≡ k) → Dec (a ≡ i) → Exact q bs v j a
    exact-all j a l d (yes e) (yes f) = rw (e, f) exact-here
    exact-all j a l d (no n) f = exact-else j a l d (λ e y. n e)
    exact-all j a l d (yes e) (no n) = exact-else j a l d (λ y f. n f)

    closed-else : (j a : ℕ) → a < joins_of bs j → Done v j a → (j ≡ k → a ≡ i → ⊥) → DoneUses v (own_of bs j + 1 + a) (block_at bs j).uses
    closed-else j a l d ne = uses-still (own_of bs j + 1 + a) (block_at bs j).uses (step.ready.table.closed j a l (before j a (omega (arith, few j)) ne d))

    closed-here : DoneUses v (own_of bs k + 1 + i) (block_at bs k).uses
    closed-here = let e : c ≡ own_of bs k + 1 + i = omega arith in uses-still (own_of bs k + 1 + i) (block_at bs k).uses (rw e at step.ready.done)

    closed_all : (j a : ℕ) → a < joins_of bs j → Done v j a → Dec (j ≡ k) → Dec (a ≡ i) → DoneUses v (own_of bs j + 1 + a) (block_at bs j).uses
    closed_all j a l d (yes e) (yes f) = rw (e, f) closed-here
    closed_all j a l d (no n) f = closed-else j a l d (λ e y. n e)
    closed_all j a l d (yes e) (no n) = closed-else j a l d (λ y f. n f)

-- A table in which no record is made.
pub table-begin : (q : Ask) (bs : List Block) (n : ℕ) → Table q bs (replicate n 0)
table-begin q bs n = record { exact = λ k i h d. absurd (d (none (record_at k i + inside_at))); closed = λ k i h d. absurd (d (none (record_at k i + inside_at))) }
  where
    none : (x : ℕ) → ◌≡◌ {A = ℕ} (get_or (replicate n 0) x 0) 0
    none x = go (dec_lt x n)
      where
        go : Dec (x < n) → ◌≡◌ {A = ℕ} (get_or (replicate n 0) x 0) 0
        go (yes h) = get_or-replicate {A = ℕ} n x 0 0 h
        go (no h) = get_or-eq_default (replicate n 0) 0 (rw (length-replicate {A = ℕ} n 0) (omega arith))

-- The own cues that an own cue is linked to, by the record of its marks.
pub known_own_cue : (q : Ask) (bs : List Block) (k c : ℕ) (m m₁ s : List ℕ) → MarksStep q bs k c m m₁ s → 1 ≤ c → c ≤ own_of bs k → own_of bs k ≤ max_own → KnownOwn q bs s 0 k c
known_own_cue q bs k c m m₁ s step x y small =
    known_own_near q bs m₁ s 0 k c step.ready (omega (arith, own_of_at bs k))
    (λ d i j. (λ f. (step.marks.at d (i, omega arith)).0 (sym (bit d i j) ∙ f), λ n. bit d i j ∙ (step.marks.at d (i, omega arith)).1 n))
  where
    bit : (d : ℕ) → 1 ≤ d → d ≤ (block_at bs k).own → own_bit s (0 + bits_at) d ≡ mark_of (block_at bs k).own s d
    bit d i j = copied_bit s 0 s (block_at bs k).own d (λ n l. refl) i j (omega (arith, own_of_at bs k))
