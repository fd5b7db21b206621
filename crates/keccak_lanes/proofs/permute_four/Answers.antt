use Rattle.std.proofs.Common.{sym, ap, ◌∙◌, arith}
use Rattle.standards.specs.Fips202.{rounds}
use Rattle.fips202_laws.proofs.Constants.{constants_are}
use Rattle.fips202_laws.proofs.Rounds.{rounds_all}
use Rattle.keccak_lanes.specs.FourStates.{state_of}
use Rattle.keccak_lanes.proofs.Rounds.{round_more}
use Rattle.keccak_lanes.proofs.permute_four.Goals as goal

pub loop-constant-init : goal.loop-constant-init
loop-constant-init c k h = ap (λ cs. rounds cs (state_of k c.args.lanes.now)) constants_are

pub loop-constant-preserved : goal.loop-constant-preserved
loop-constant-preserved c k h =
    let step = c.loop-constant in
    round_more (state_of k step.a) (state_of k c.round_step-a.result) step.constant-index (omega arith) (c.round_step-a.ensures k h) ∙ step.invariant k h

pub returns : goal.returns
returns c l h =
    let end = c.loop-constant in
    sym (rounds_all (state_of l end.a) end.constant-index (omega arith)) ∙ end.invariant l h
