-- The lines of a file, step by step: how reading begins, goes on and ends.
use mathlib.Core.Path.{◌∙◌, ap}
use Rattle.std.proofs.lemmas.Result.{err_from_is_err_and}
use Rattle.codec.proofs.Sofar.{sofar_begin, sofar_on, sofar_less, sofar_done, sofar_refused}
use Rattle.codec.proofs.read_lines.Goals as goal

pub loop-n-init : goal.loop-n-init
loop-n-init c =
    record {
      same = ap (λ s. s.now) c.new-reader.ensures.0;
      sofar = rw c.new-reader.ensures.1 (sofar_begin _ _ c.requires.0 c.requires.1);
    }

pub returns-in_err-next_row : goal.returns-in_err-next_row
returns-in_err-next_row c =
    let s = c.loop-n.invariant in
    let said = sofar_refused _ _ _ _ _ _ s.sofar c.next_row.auto.rows _ c.in_err-next_row.field-0.0 (rw s.same at c.in_err-next_row.ensures.step) in
    let p = err_from_is_err_and c.from_residual.result c.from_residual.ensures.1 in
    rw (p.1, p.2) said

pub loop-n-smaller : goal.loop-n-smaller
loop-n-smaller c =
    let s = c.loop-n.invariant in
    sofar_less _ _ _ _ _ _ s.sofar c.next_row.auto.rows _ _ (rw s.same at c.in_ok-next_row.ensures.step) c.if-branch.true

pub loop-n-preserved : goal.loop-n-preserved
loop-n-preserved c =
    let s = c.loop-n.invariant in
    record {
      same = ap (λ f. f.now) c.next_row.ensures.file ∙ s.same;
      sofar = sofar_on _ _ _ _ _ _ s.sofar c.next_row.auto.rows _ _ (rw s.same at c.in_ok-next_row.ensures.step) c.if-branch.true;
    }

pub returns : goal.returns
returns c =
    let s = c.loop-n.invariant in
    sofar_done _ _ _ _ _ _ s.sofar c.next_row.auto.rows _ _ (rw s.same at c.in_ok-next_row.ensures.step) c.if-branch.false
