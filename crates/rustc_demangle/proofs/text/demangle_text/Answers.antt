use Rattle.std.proofs.Common.{subst}
use Rattle.std.proofs.lemmas.Result.{on_ok_weaker}
use Rattle.demangle_value.specs.Limits.{most_bytes}
use Rattle.rustc_demangle.proofs.PieceLemmas.{pieces_join}
use Rattle.rustc_demangle.proofs.text.demangle_text.Goals as goal

pub returns-clause-text : goal.returns-clause-text
returns-clause-text g c =
    on_ok_weaker c.demangle_text_limited.result
    (subst (λ s. g.S.TextSink.took c.args.out.now s c.demangle_text_limited.new.out) (pieces_join c.args.include_hash most_bytes c.args.text.now))
    c.demangle_text_limited.ensures.text
