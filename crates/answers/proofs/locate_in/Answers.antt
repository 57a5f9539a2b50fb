-- `answers::locate_in`: the room, then the cue.
use borrow.Author.Rules.{rules}
use native.Mathlib.Omega.{arith}
use mathlib.Core.Path.{refl}
use Rattle.answers.proofs.Answering.{locate-room, locate-no, locate-asks, found-few, locate-found}
use Rattle.answers.proofs.locate_in.Goals as goal

pub returns-then-path-lt-MAX_DEPTH : goal.returns-then-path-lt-MAX_DEPTH
returns-then-path-lt-MAX_DEPTH c = search (locate-room, rules)

pub returns-then-not-known : goal.returns-then-not-known
returns-then-not-known c =
    let p = c.args.show.now.loaded in
    locate-no _ _ p _ _ _ c.is_cue-known.ensures c.count.ensures _ (omega arith) c.if-not-known.true

pub locate-place-requires : goal.locate-place-requires
locate-place-requires c =
    locate-asks _ _ c.args.show.now.loaded _ _ _ c.is_cue-known.ensures c.count.ensures c.args.path.now (omega arith) c.if-not-known.false

pub overflow_cast-result : goal.overflow_cast-result
overflow_cast-result c =
    omega (
      arith,
      found-few _ _ c.args.show.now.loaded _ _ _ c.is_cue-known.ensures c.count.ensures c.args.path.now (omega arith) _ c.if-not-known.false
          c.locate-place.ensures.value,
    )

pub overflow_cast-result-2 : goal.overflow_cast-result-2
overflow_cast-result-2 c =
    omega (
      arith,
      found-few _ _ c.args.show.now.loaded _ _ _ c.is_cue-known.ensures c.count.ensures c.args.path.now (omega arith) _ c.if-not-known.false
          c.locate-place.ensures.value,
    )

pub returns : goal.returns
returns c =
    locate-found _ _ c.args.show.now.loaded _ _ _ c.is_cue-known.ensures c.count.ensures c.args.path.now (omega arith) _ _ _ _
    c.if-not-known.false c.locate-place.ensures.value refl refl c.locate-place.ensures.path_after
