use Rattle.std.proofs.Common.{◌+◌, ◌≤◌, ◌++◌, length, take, ap, ◌∙◌, arith}
use Rattle.std.specs.List.{slice_range}
use Rattle.std.proofs.lemmas.List.{length-take}
use Rattle.piece_buffer.proofs.CopiedAgain.{in_use}
use Rattle.piece_buffer.proofs.PieceBuffer.push_again.Goals as goal

pub returns-clause-held : goal.returns-clause-held
returns-clause-held c e =
    let all = c.self.inside.bytes in
    let len = c.self.inside.len in
    let within : c.args.start + c.args.len ≤ len = omega (arith, c.requires, ap length c.self.view_is, length-take len all) in
    ap (take (len + c.args.len)) c.copy_within.ensures.after
    ∙ in_use len c.args.start c.args.len all within (omega (arith, c.if-len-self.false, c.self.invariant.0, c.self.invariant.1))
    ∙ ap (λ z. z ++ slice_range z c.args.start (c.args.start + c.args.len)) c.self.view_is
