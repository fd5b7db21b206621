use Rattle.std.proofs.Common.{◌≡◌, length, ap, ◌∙◌, arith}
use Rattle.standards.specs.Lists.{table}
use Rattle.standards.specs.Fips202.{state_byte}
use Rattle.keccak_lanes.specs.FourStates.{state_in}
use Rattle.fips202.proofs.FourStreams.{part_of}
use Rattle.fips202.proofs.four.FourSqueezer.read.Goals as goal

pub returns : goal.returns
returns g c =
    let s = c.args.self.now in
    let own = state_in c.args.l s.words in
    let bytes : c.unpacked-bytes.result ≡ table 200 (state_byte own) = c.unpacked-bytes.ensures ∙ ap (λ a. table 200 (state_byte a)) c.state.ensures in
    part_of g.row.RATE s.place (length c.args.out.now) own c.unpacked-bytes.result c.copy_from_slice.new.self (omega arith) (omega arith) (omega arith) bytes c.copy_from_slice.ensures.after
