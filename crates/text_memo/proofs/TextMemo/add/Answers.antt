use Rattle.std.proofs.Common.{rules, refl, length}
use Rattle.text_memo.proofs.Entries.{new_entry}
use Rattle.text_memo.proofs.TextMemo.add.Goals as goal

pub returns-then-not-make_room-clause-remembers : goal.returns-then-not-make_room-clause-remembers
returns-then-not-make_room-clause-remembers c = λ text_for remembers same. c.make_room.ensures.kept text_for remembers

pub returns-then-not-append-clause-remembers : goal.returns-then-not-append-clause-remembers
returns-then-not-append-clause-remembers c = λ text_for remembers same. c.append.ensures.kept text_for (c.make_room.ensures.kept text_for remembers)

pub returns-clause-remembers : goal.returns-clause-remembers
returns-clause-remembers c = λ text_for remembers same.
    c.put.ensures.remembers text_for (c.append.ensures.kept text_for (c.make_room.ensures.kept text_for remembers))
    (new_entry text_for c.make_room.new.self.bytes.items c.args.key.now c.args.text.now c.append.new.self.bytes.items
    (record { start = c.len-start.result; key_len = length c.args.key.now; text_len = length c.args.text.now; fingerprint = c.fingerprint_of.result })
    (c.append.ensures.appended c.if-not-append.false) (search rules) refl refl same)
