use Rattle.std.proofs.Common.{◌≡◌, ◌++◌, ◌∷◌, [], get_or, refl, sym, ap, subst, ◌∙◌}
use Rattle.rustc_demangle.specs.ByteStream.{unwritten, IsPartialCandidate}
use Rattle.rustc_demangle.proofs.ByteStreamLemmas.{first_byte, passed_moved}
use Rattle.rustc_demangle.proofs.stream.pending_run.Pending.extend_prefix.Goals as goal

pub returns-then-extends_prefix-clause-pending : goal.returns-then-extends_prefix-clause-pending
returns-then-extends_prefix-clause-pending g c =
    let held = c.args.self.now.bytes.items in
    let available = c.args.available.now in
    let same : c.as_slice.result.now ++ get_or available 0 0 ∷ [] ≡ c.buffer_bytes.new.pending.items =
    ap (λ l. l ++ get_or available 0 0 ∷ []) c.as_slice.ensures.value ∙ ap (λ l. held ++ l) (sym (first_byte available c.requires.some)) ∙ sym c.in_ok-buffer_bytes.ensures.ok in
    subst (λ l. IsPartialCandidate (unwritten c.args.self.now.before l)) same (c.extends_prefix.ensures.on c.if-extends_prefix.true)

pub returns-then-extends_prefix-clause-ok : goal.returns-then-extends_prefix-clause-ok
returns-then-extends_prefix-clause-ok g c = passed_moved _ _ _ _ _ _ 1 _ refl c.in_ok-buffer_bytes.ensures.ok
