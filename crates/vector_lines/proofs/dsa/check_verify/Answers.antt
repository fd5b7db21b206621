use Rattle.standards.specs.Calls.{accepts}
use Rattle.vector_lines.proofs.Taken.{taken_by}
use Rattle.vector_lines.proofs.dsa.check_verify.Goals as goal

pub returns : goal.returns
returns g c =
    taken_by c.taken.result (accepts g.H.Hash.hashes c.args.set) c.taken.ensures c.verify.ensures c.deref.ensures.value c.deref-2.ensures.value c.deref-3.ensures.value c.deref-4.ensures.value
