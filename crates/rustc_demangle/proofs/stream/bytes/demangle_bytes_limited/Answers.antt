use Rattle.std.proofs.Common.{◌∙◌, ap}
use Rattle.demangle_value.specs.Symbols.{bounded}
use Rattle.demangle_value.specs.declared.format.SizeLimit.TheVariants as size
use Rattle.rustc_demangle.proofs.MemoLemmas.{whole_same, stopped_same}
use Rattle.rustc_demangle.proofs.stream.bytes.demangle_bytes_limited.Goals as goal

pub returns-clause-ok : goal.returns-clause-ok
returns-clause-ok g c = whole_same _ _ _ _ _ _ _ (c.bounded-format.ensures ∙ ap (λ f. bounded f (size.Bytes c.args.limit)) c.unfolded_form.ensures) c.demangle_bytes_formatted.ensures.ok

pub returns-clause-err : goal.returns-clause-err
returns-clause-err g c = stopped_same _ _ _ _ _ _ (c.bounded-format.ensures ∙ ap (λ f. bounded f (size.Bytes c.args.limit)) c.unfolded_form.ensures) c.demangle_bytes_formatted.ensures.err
