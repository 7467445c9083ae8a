use Rattle.std.proofs.Common.{◌-◌}
use Rattle.std.proofs.lemmas.Str.{IsUtf8-from_ascii, IsAscii-take, IsAscii-drop}
use Rattle.demangle_symbol.proofs.cursor.Symbol.span.Goals as goal

pub from_utf8_unchecked-text-requires : goal.from_utf8_unchecked-text-requires
from_utf8_unchecked-text-requires c = rw c.as_bytes.ensures.value (IsUtf8-from_ascii _ (IsAscii-take _ (c.args.part.to - c.args.part.from) (IsAscii-drop _ c.args.part.from (rw (← c.self.view_is) at c.requires.ascii))))
