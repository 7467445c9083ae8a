use Rattle.text_memo.proofs.TextMemo.insert.Goals as goal

pub returns-then-text-le-MAX_TEXT-clause-remembers : goal.returns-then-text-le-MAX_TEXT-clause-remembers
returns-then-text-le-MAX_TEXT-clause-remembers c = λ text_for remembers same. c.free_excess.ensures.remembers text_for (c.add.ensures.remembers text_for remembers same)
