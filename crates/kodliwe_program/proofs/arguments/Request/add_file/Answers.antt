use Rattle.std.proofs.Common.{rules, ◌≡◌, ◌≢◌, codes, ap, sym, subst, refl}
use Rattle.kodliwe_program.specs.CommandLine.{IsInputPart, input_part_of, options_of}
use Rattle.kodliwe_program.proofs.ArgumentLemmas.{parts_pushed}
use Rattle.kodliwe_program.proofs.arguments.Request.add_file.Goals as goal
use Rattle.kodliwe_program.proofs.arguments.Request.add_file.Goals.{then-eq, else-eq}

pub returns-clause-sets : goal.returns-clause-sets
returns-clause-sets c =
    let old = options_of c.args.self.now in
    let part = input_part_of c.if-eq.source in
    let is : IsInputPart c.args.file.now part = elim c.if-eq.branch [
      | then-eq w ↦ (let e : c.args.file.now ≡ codes "-" = search rules in subst (λ s. IsInputPart c.args.file.now (input_part_of s)) (sym w.source-is) e)
      | else-eq w ↦ (let n : c.args.file.now ≢ codes "-" = search rules in subst (λ s. IsInputPart c.args.file.now (input_part_of s)) (sym w.source-is) (n, refl))
    ] in
    (part, is, ap (λ l. record old { parts = l }) (parts_pushed c.args.self.now.sources.items _ c.if-eq.source c.in_ok-push.ensures.items))
