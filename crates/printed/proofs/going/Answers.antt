-- `printed::going` meets its contract.
use Rattle.printed.proofs.Parts.{going_here, going_else}
use Rattle.printed.proofs.going.Goals as goal

pub returns-then-place-end : goal.returns-then-place-end
returns-then-place-end c = going_here _ _ _ _ c.wide.ensures.0 c.if-place-end.true

pub returns-else-place-end : goal.returns-else-place-end
returns-else-place-end c = going_else _ _ _ _ c.wide.ensures.0 c.if-place-end.false
