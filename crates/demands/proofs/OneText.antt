-- For each file there is only one text that document 01 demands.
use Prim.Native.Nat.{ℕ, zero, suc, ◌+◌, ◌*◌, ◌-◌, ◌≤◌, ◌<◌}
use native.Mathlib.Omega.{arith}
use native.Mathlib.Decide.{dec_lt}
use mathlib.Core.Path.{◌≡◌, refl, sym, ◌∙◌, ap, ap₂}
use mathlib.Core.Logic.{◌⊎◌, inl, inr}
use mathlib.Core.List.Memᴰ
use mathlib.Core.List.{List, [], ◌∷◌, ◌++◌, Memᴰ}
use lib.ListN.{length, get_or, replicate, length-append, length-replicate}
use Rattle.std.specs.Prelude.{Ok, Err}
use Rattle.model.specs.Values.{decimal}
use Rattle.model.specs.Rows.{row_count}
use Rattle.model.specs.Blocks.{Link, blocks_of, count}
use Rattle.model.specs.Lists.{overwrite}
use Rattle.model.specs.Verdicts.{file_verdict, Verdict}
use Rattle.model.specs.Answers.{of_read, ReadAnswer, show_size}
use Rattle.model.specs.Questions.{refuse, answer, on_accepted, read_asked}
use Rattle.model.specs.Asking.{AsksRead}
use Rattle.basics.specs.Members.{Each}
use Rattle.basics.specs.Values.{Digit}
use Rattle.basics.proofs.Every.{each_append}
use Rattle.shows.proofs.RoundTrips.{read_answer, accepted-file}
use Rattle.demands.specs.Words.{IsDigit}
use Rattle.demands.specs.Acceptance.{Below}
use Rattle.demands.specs.Printed.{NumberText, NumbersLine, last, next, triple, TripleLines, no_triple, triple-then}
use Rattle.demands.specs.Printed.{RisingTriples, none, more, Listed, IsPrinted}
use Rattle.demands.proofs.Words.{figures_of, figures-digits, figures-length}
use Rattle.demands.proofs.Winning.{below_both}
use Rattle.demands.proofs.Printed.{whole-rows}

-- As many digits for one number are the same digits.
same_digits : (v w : ℕ) (ds es : List ℕ) → Each Digit ds → Each Digit es → length ds ≡ length es → decimal v ds ≡ decimal w es → (v ≡ w) × (ds ≡ es)
unfolding decimal
same_digits v w [] [] h g l e = (e, refl)
same_digits v w [] (c ∷ es) h g l e = absurd (omega arith)
same_digits v w (d ∷ ds) [] h g l e = absurd (omega arith)
same_digits v w (d ∷ ds) (c ∷ es) h g l e =
    let (a, b) = same_digits (v * 10 + d) (w * 10 + c) ds es h.1 g.1 (omega arith) e in
    let k : d ≡ c = omega (arith, h.0, g.0) in
    (omega (arith, h.0, g.0), ap₂ ◌∷◌ k b)

-- A text is known by its digits,
figures-once : (s t : List ℕ) → Each IsDigit s → Each IsDigit t → figures_of s ≡ figures_of t → s ≡ t
figures-once [] [] h g e = refl
figures-once [] (c ∷ t) h g e = absurd (let z = ap length e in omega arith)
figures-once (b ∷ s) [] h g e = absurd (let z = ap length e in omega arith)
figures-once (b ∷ s) (c ∷ t) h g e =
    let k : b ≡ c = omega (arith, h.0, g.0, ap (λ (l : List ℕ). get_or l 0 0) e) in
    ap₂ ◌∷◌ k (figures-once s t h.1 g.1 cc)

-- and zeros before them.
zeros_digits : (k : ℕ) → Each Digit (replicate k 0)
zeros_digits zero = tt
zeros_digits (suc k) = (omega arith, zeros_digits k)

zeros_first : (k : ℕ) (ds : List ℕ) → decimal 0 (replicate k 0 ++ ds) ≡ decimal 0 ds
unfolding decimal
zeros_first zero ds = refl
zeros_first (suc k) ds = zeros_first k ds

-- So a number has one text: a longer one would begin with a 0.
module _ (n : ℕ) where
  no_longer : (s t : List ℕ) → NumberText s n → NumberText t n → length s < length t → ⊥
  no_longer s [] a b h = omega arith
  no_longer s (c ∷ t) a b h = b.no_padding (omega (arith, a.some)) zero-first
    where
      k : ℕ
      k = length t - length s

      long : length (figures_of (c ∷ t)) ≡ length (replicate (suc k) 0 ++ figures_of s)
      long =
          omega
          (arith, figures-length t, figures-length s, length-append (replicate (suc k) 0) (figures_of s), length-replicate {A = ℕ} (suc k) 0)

      same : figures_of (c ∷ t) ≡ replicate (suc k) 0 ++ figures_of s
      same =
          (same_digits 0 0 _ _ (figures-digits (c ∷ t) b.all_digits)
          (each_append Digit (replicate (suc k) 0) (figures_of s) (zeros_digits (suc k)) (figures-digits s a.all_digits))
          long (b.number ∙ sym (zeros_first (suc k) (figures_of s) ∙ a.number))).1

      zero-first : c ≡ 48
      zero-first = omega (arith, b.all_digits.0, ap (λ (l : List ℕ). get_or l 0 0) same)

  number-once : (s t : List ℕ) → NumberText s n → NumberText t n → s ≡ t
  number-once s t a b = go (dec_lt (length s) (length t)) (dec_lt (length t) (length s))
    where
      go : Dec (length s < length t) → Dec (length t < length s) → s ≡ t
      go (yes h) d = absurd (no_longer s t a b h)
      go (no h) (yes g) = absurd (no_longer t s b a g)
      go (no h) (no g) =
          figures-once s t a.all_digits b.all_digits
          (same_digits 0 0 _ _ (figures-digits s a.all_digits) (figures-digits t b.all_digits)
          (omega (arith, figures-length s, figures-length t)) (a.number ∙ sym b.number)).1

-- So some numbers have one line, and some links have theirs.
line_once : {k l ns : List ℕ} → NumbersLine k ns → NumbersLine l ns → k ≡ l
line_once (last {t} {n} a) (last {t = u} b) = ap (λ w. w ++ (10 ∷ [])) (number-once n t u a b)
line_once (next {t} {l} {n} a r) (next {t = u} b q) = ap₂ (λ w z. w ++ (44 ∷ z)) (number-once n t u a b) (line_once r q)

lines-once : {ks ls : List ℕ} {E : List Link} → TripleLines ks E → TripleLines ls E → ks ≡ ls
lines-once no_triple no_triple = refl
lines-once (triple-then a r) (triple-then b q) = ap₂ ◌++◌ (line_once a b) (lines-once r q)

-- Two lists of the same links that rise are one.
abbrev In : List Link → List Link → Type 0
In ls ms = (l : Link) → Memᴰ l ls → Memᴰ l ms

rest_in : (l m : Link) (ls ms : List Link) → l ≡ m → ((x : Link) → Memᴰ x ls → Below (triple l) (triple x)) → In (l ∷ ls) (m ∷ ms) → In ls ms
rest_in l m ls ms e low h x i = go (Memᴰ.cases_cons (h x (Memᴰ.tail i)))
  where
    go : (x ≡ m) ⊎ Memᴰ x ms → Memᴰ x ms
    go (inl f) = let b : Below (triple x) (triple x) = rw (e ∙ sym f) at (low x i) in absurd (below_both b b)
    go (inr j) = j

rising-once : {ls ms : List Link} → RisingTriples ls → RisingTriples ms → In ls ms → In ms ls → ls ≡ ms
rising-once none none h g = refl
rising-once none (more {l = m} low r) h g = absurd (Memᴰ.not-nil (g m (Memᴰ.head refl)))
rising-once (more {l} low r) none h g = absurd (Memᴰ.not-nil (h l (Memᴰ.head refl)))
rising-once (more {l} {ls} low r) (more {l = m} {ls = ms} high q) h g =
    ap₂ ◌∷◌ first (rising-once r q (rest_in l m ls ms first low h) (rest_in m l ms ls (sym first) high g))
  where
    first : l ≡ m
    first = go (Memᴰ.cases_cons (h l (Memᴰ.head refl))) (Memᴰ.cases_cons (g m (Memᴰ.head refl)))
      where
        go : (l ≡ m) ⊎ Memᴰ l ms → (m ≡ l) ⊎ Memᴰ m ls → l ≡ m
        go (inl e) d = e
        go (inr i) (inl e) = sym e
        go (inr i) (inr j) = absurd (below_both (high l i) (low m j))

listed-once : (E ls ms : List Link) → Listed E ls → Listed E ms → ls ≡ ms
listed-once E ls ms a b =
    rising-once a.rising b.rising (λ l i. (b.exactly l).1 ((a.exactly l).0 i)) (λ l i. (a.exactly l).1 ((b.exactly l).0 i))

-- Reading gives an answer about every file.
an_answer : (file out : List ℕ) → 1024 * 11 ≤ length out → (r : ReadAnswer) × (after : List ℕ) × AsksRead file out r after
unfolding of_read read_asked on_accepted refuse answer
an_answer file out room = go (file_verdict file) refl
  where
    go : (v : Verdict) → file_verdict file ≡ v → (r : ReadAnswer) × (after : List ℕ) × AsksRead file out r after
    go (Ok _) e =
        let (xs, s, v) = accepted-file file e in
        let fits : length xs ≤ length out = omega (arith, whole-rows xs v) in
        (Ok (show_size (row_count xs) (length (blocks_of xs)) (count (blocks_of xs))), overwrite xs out, sym (read_answer file xs out s v fits))
    go (Err q) e = (Err q, out, rw e refl)

-- So a file has one text, whatever the answer is.
module _ (file a b : List ℕ) (p : IsPrinted file a) (q : IsPrinted file b) where
  text-so : (out after : List ℕ) (r : ReadAnswer) → 1024 * 11 ≤ length out → AsksRead file out r after → a ≡ b
  text-so out after (Ok z) room e = go (dec_lt 1000 z.cues)
    where
      go : Dec (1000 < z.cues) → a ≡ b
      go (yes h) =
          let (_, s, x) = p.count out after z.rows z.blocks z.cues e h in
          let (_, t, y) = q.count out after z.rows z.blocks z.cues e h in
          let same = line_once s t in
          cc
      go (no h) =
          let (ks, E, s, u, x) = p.links out after z.rows z.blocks z.cues e (omega arith) in
          let (ls, F, t, v, y) = q.links out after z.rows z.blocks z.cues e (omega arith) in
          let same : ks ≡ ls = lines-once s (rw (← listed-once _ E F u v) at t) in
          cc
  text-so out after (Err f) room e =
      let (_, s, x) = p.refusal out after f room e in
      let (_, t, y) = q.refusal out after f room e in
      let same = line_once s t in
      cc

pub one-text : (file a b : List ℕ) → IsPrinted file a → IsPrinted file b → a ≡ b
one-text file a b p q =
    let out : List ℕ = replicate 11264 0 in
    let room : 1024 * 11 ≤ length out = omega (arith, length-replicate {A = ℕ} 11264 0) in
    let (r, after, e) = an_answer file out room in
    text-so file a b p q out after r room e
