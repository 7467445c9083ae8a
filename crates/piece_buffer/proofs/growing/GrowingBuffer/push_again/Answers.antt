use Rattle.std.proofs.Common.{◌+◌, ◌≤◌, ◌++◌, length, take, ap, ◌∙◌, arith}
use Rattle.std.specs.List.{slice_range}
use Rattle.std.proofs.lemmas.List.{length-take}
use Rattle.piece_buffer.proofs.CopiedAgain.{in_use}
use Rattle.piece_buffer.proofs.growing.GrowingBuffer.push_again.Goals as goal

pub returns-clause-held : goal.returns-clause-held
returns-clause-held c e =
    let all = c.make_room.new.memory.items in
    let len = c.self.inside.len in
    let within : c.args.start + c.args.len ≤ len = omega (arith, c.requires, ap length c.self.view_is, length-take len c.self.inside.memory.items) in
    ap (take (len + c.args.len)) c.copy_within.ensures.items
    ∙ in_use len c.args.start c.args.len all within (c.make_room.ensures.room c.if-not-make_room.false)
    ∙ ap (λ z. z ++ slice_range z c.args.start (c.args.start + c.args.len)) (c.make_room.ensures.same ∙ c.self.view_is)
