use Rattle.std.proofs.Common.{refl}
use Rattle.standards.specs.Lists.{from}
use Rattle.standards.specs.Bytes.{bit_rev}
use Rattle.standards.specs.Ring.{power}
use Rattle.ring.proofs.kem.tables.zetas.Goals as goal

-- the table by its rule, computed
pub returns : goal.returns
unfolding from power bit_rev
returns c = refl
