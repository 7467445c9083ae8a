use Rattle.rustc_demangle.proofs.MemoLemmas.{whole_same, stopped_same}
use Rattle.rustc_demangle.proofs.stream.bytes.demangle_bytes_formatted.Goals as goal

pub returns-clause-ok : goal.returns-clause-ok
returns-clause-ok g c = whole_same _ _ _ _ _ _ _ c.with_format-memo.ensures c.demangle_bytes_counted.ensures.ok

pub returns-clause-err : goal.returns-clause-err
returns-clause-err g c = stopped_same _ _ _ _ _ _ c.with_format-memo.ensures c.demangle_bytes_counted.ensures.err
