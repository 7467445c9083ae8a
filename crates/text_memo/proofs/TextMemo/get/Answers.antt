use Rattle.std.proofs.Common.{arith}
use Rattle.text_memo.proofs.Entries.{pair_at}
use Rattle.text_memo.proofs.TextMemo.get.Goals as goal

pub returns-in-Some-clause-text : goal.returns-in-Some-clause-text
returns-in-Some-clause-text c = λ text_for remembers.
    c.in-Some.ensures.text text_for (pair_at text_for c.args.self.now c.pair_slot-slot.result c.index-pair.result.now remembers (omega arith) c.index-pair.ensures).0
