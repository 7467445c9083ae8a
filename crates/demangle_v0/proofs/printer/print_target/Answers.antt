use Rattle.std.proofs.Common.{Ok, Err, Some, refl, ap, arith}
use Rattle.demangle_v0_parser.specs.Parsers.{checkpoint_of}
use Rattle.demangle_v0.proofs.PutAgain.{target_deep}
use Rattle.demangle_v0.proofs.Targets.{stops_or, held_left, held_ran, print_fails, over_less, target_done, target_less, target_on, target_over, unit_valid}
use Rattle.demangle_v0.proofs.printer.print_target.Goals as goal

pub print_above-requires-clause-valid : goal.print_above-requires-clause-valid
print_above-requires-clause-valid g c = rw c.unit_of-parser.ensures (unit_valid c.args.parser.now.continuation c.args.parser.now.state c.args.parser.now.stack.frames c.requires.target c.requires.valid)

pub returns-in_err-left-clause-ran : goal.returns-in_err-left-clause-ran
returns-in_err-left-clause-ran g c =
    let m = c.args.parser.now in
    let k = c.print_above.new.parser in
    let ran = rw c.unit_of-parser.ensures at c.in_err-left.ensures.ran in
    print_fails g.S.TextSink m.source.symbol.now m.source.form c.from_residual.result c.from_residual.ensures.0 (target_done g.S.TextSink m.source.symbol.now m.source.form m.continuation m.state c.args.out.now c.print_above.new.out m.looks c.len.result k.looks m.stack.frames k.stack.frames (Err c.in_err-left.field-0.0) (checkpoint_of k) c.requires.target c.len.ensures (λ q. cc) ran)

pub returns-in-Some-clause-ran : goal.returns-in-Some-clause-ran
returns-in-Some-clause-ran g c =
    let m = c.args.parser.now in
    let k = c.print_above.new.parser in
    let ran = rw (c.unit_of-parser.ensures, c.in-Some.is) at c.in_ok-left.ensures.ran in
    target_done g.S.TextSink m.source.symbol.now m.source.form m.continuation m.state c.args.out.now c.print_above.new.out m.looks c.len.result k.looks m.stack.frames k.stack.frames (Ok (Some c.in-Some.left)) (checkpoint_of k) c.requires.target c.len.ensures (λ q. cc) ran

pub returns-in-Some-clause-full : goal.returns-in-Some-clause-full
returns-in-Some-clause-full g c = λ b. stops_or (rw c.in-Some.is at c.in_ok-left.ensures.full b)

pub returns-in-Some-clause-held : goal.returns-in-Some-clause-held
returns-in-Some-clause-held g c = λ _.
    let m = c.args.parser.now in
    let k = c.print_above.new.parser in
    let laws = g.met.S.TextSink in
    let ran = rw (c.unit_of-parser.ensures, c.in-Some.is) at c.in_ok-left.ensures.ran in
    held_left g.S.TextSink m.source.symbol.now m.source.form laws.took_nothing laws.took_joined c.in-Some.left c.args.texts.now c.requires.ready c.requires.held (target_done g.S.TextSink m.source.symbol.now m.source.form m.continuation m.state c.args.out.now c.print_above.new.out m.looks c.len.result k.looks m.stack.frames k.stack.frames (Ok (Some c.in-Some.left)) (checkpoint_of k) c.requires.target c.len.ensures (λ q. cc) ran)

pub end_note-requires-clause-held : goal.end_note-requires-clause-held
end_note-requires-clause-held g c =
    let m = c.args.parser.now in
    let k = c.print_above.new.parser in
    let laws = g.met.S.TextSink in
    let same = c.print_above.ensures.same in
    let ran = rw (c.unit_of-parser.ensures, c.in_default.is) at c.in_ok-left.ensures.ran in
    let over = target_over g.S.TextSink m.source.symbol.now m.source.form m.continuation m.state c.args.out.now c.print_above.new.out m.looks c.len.result k.looks m.stack.frames k.stack.frames (checkpoint_of k) c.requires.target c.len.ensures ran in
    rw (same.0, same.1) (held_ran g.S.TextSink m.source.symbol.now m.source.form laws.took_nothing laws.took_joined c.args.texts.now c.requires.ready c.requires.held over.1)

pub end_note-requires-clause-printed : goal.end_note-requires-clause-printed
end_note-requires-clause-printed g c =
    let m = c.args.parser.now in
    let k = c.print_above.new.parser in
    let same = c.print_above.ensures.same in
    let note = c.start_note-note.ensures in
    let ran = rw (c.unit_of-parser.ensures, c.in_default.is) at c.in_ok-left.ensures.ran in
    let over = target_over g.S.TextSink m.source.symbol.now m.source.form m.continuation m.state c.args.out.now c.print_above.new.out m.looks c.len.result k.looks m.stack.frames k.stack.frames (checkpoint_of k) c.requires.target c.len.ensures ran in
    rw (same.0, same.1) (record {
      target = rw note.target.0 c.requires.target;
      deep = rw note.target.1 (target_deep m.continuation m.state.depth_left m.state.lifetimes c.requires.target c.requires.valid.fits);
      before = c.args.out.now;
      start = note.start;
      laws = note.laws;
      reread = note.reread;
      after = k.state;
      looks = m.looks;
      looks_after = k.looks;
      ends = refl;
      ready = c.requires.ready;
      ran = rw (note.target.0, note.target.1) over.1;
    })

pub returns-clause-ran : goal.returns-clause-ran
returns-clause-ran g c =
    let m = c.args.parser.now in
    let k = c.print_above.new.parser in
    let ran = rw (c.unit_of-parser.ensures, c.in_default.is) at c.in_ok-left.ensures.ran in
    let done = c.in_ok-left.ensures.done (ap Ok c.in_default.is) in
    target_on g.S.TextSink m.source.symbol.now m.source.form m.continuation m.state c.args.out.now c.print_above.new.out m.looks c.len.result k.looks m.stack.frames k.stack.frames (checkpoint_of k) c.requires.target c.len.ensures done.1 ran

pub returns-in-Some-clause-falls : goal.returns-in-Some-clause-falls
returns-in-Some-clause-falls g c = λ q.
    let m = c.args.parser.now in
    let below = rw (c.unit_of-parser.ensures, c.in-Some.is) at c.in_ok-left.ensures.falls in
    omega (arith, below q, target_less m.source.symbol.now m.source.form m.continuation m.state m.stack.frames c.requires.target)

pub returns-clause-falls : goal.returns-clause-falls
returns-clause-falls g c = λ _.
    let m = c.args.parser.now in
    let k = c.print_above.new.parser in
    let same = c.print_above.ensures.same in
    let ran = rw (c.unit_of-parser.ensures, c.in_default.is) at c.in_ok-left.ensures.ran in
    let done = c.in_ok-left.ensures.done (ap Ok c.in_default.is) in
    let over = target_over g.S.TextSink m.source.symbol.now m.source.form m.continuation m.state c.args.out.now c.print_above.new.out m.looks c.len.result k.looks m.stack.frames k.stack.frames (checkpoint_of k) c.requires.target c.len.ensures ran in
    let on = target_on g.S.TextSink m.source.symbol.now m.source.form m.continuation m.state c.args.out.now c.print_above.new.out m.looks c.len.result k.looks m.stack.frames k.stack.frames (checkpoint_of k) c.requires.target c.len.ensures done.1 ran in
    rw (same.0, same.1, done.1) (over_less g.S.TextSink m.source.symbol.now m.source.form c.requires.target over.0 (rw done.1 at on.ran))
