use Rattle.std.proofs.Common.{◌≡◌, ◌⊎◌, inl, inr, Ok, None, true, false, refl, subst, sym}
use Rattle.demangle_v0_parser.specs.Parsers.{Performed}
use Rattle.demangle_v0_parser.specs.Steps.{Env, Machine, PerformsAt}
use Rattle.demangle_v0_parser.specs.Measure.{Fits}
use Rattle.demangle_v0_parser.specs.Targets.{unit_of}
use Rattle.demangle_v0_parser.specs.declared.Continuation.{Continuation}
use Rattle.demangle_v0_parser.specs.declared.Continuation.TheVariants as continuation
use Rattle.demangle_v0_parser.proofs.Parsers.{unless_both, advanced, advanced_without_output, advanced_unfolded}
use Rattle.demangle_v0_parser.proofs.BackrefSteps.{constant_target, path_target, stays_over, type_target}
use Rattle.demangle_v0_parser.proofs.TypeSteps.{type_point}
use Rattle.demangle_v0_parser.proofs.NestedNames.{alone}
use Rattle.demangle_v0_parser.proofs.StepRuns.{run_ready}
use Rattle.demangle_v0_parser.proofs.parse.Parser.dispatch.Goals as goal

pub returns-in-Path-clause-performs : goal.returns-in-Path-clause-performs
returns-in-Path-clause-performs g c =
    let d = c.path.ensures.performs in
    rw c.in-Path.is (record {
      steps = d;
      ready = λ r ok. d.does.ready (run_ready d.runs r) ok;
      if_ok = λ r x is. d.does.if_ok (run_ready d.runs r) x is;
      same = c.path.ensures.same;
      grows = c.path.ensures.grows;
      own_looks = c.path.ensures.own_looks;
    })

pub returns-in-Lifetime-clause-performs : goal.returns-in-Lifetime-clause-performs
returns-in-Lifetime-clause-performs g c = alone (rw c.in-Lifetime.is c.out_of_line.ensures)

pub returns-in-End-clause-performs : goal.returns-in-End-clause-performs
returns-in-End-clause-performs g c = alone (rw c.in-End.is (record {
  does = stays_over c.requires.can_step.no_pending_text;
  same = (refl, refl, refl);
}))

target_does : {V : Type 0} {e : Env V} {t : Machine V} (p q : Continuation) → (p ≡ continuation.TargetPath) ⊎ ((p ≡ continuation.TargetType) ⊎ (p ≡ continuation.TargetConstant)) → q ≡ unit_of p
    → t.state.pending_text ≡ None → Fits p t.state.depth_left t.state.lifetimes → PerformsAt e p t (Ok q) t
target_does p q (inl x) u k f = rw u (rw x (path_target k (rw x at f)))
target_does p q (inr (inl x)) u k f = rw u (rw x (type_target k (rw x at f)))
target_does p q (inr (inr x)) u k f = rw u (rw x (constant_target k (rw x at f)))

pub returns-in-TargetPath-clause-performs : goal.returns-in-TargetPath-clause-performs
returns-in-TargetPath-clause-performs g c = alone (record {
  does = target_does c.args.continuation c.production_of.result c.in-TargetPath.is c.production_of.ensures c.requires.can_step.no_pending_text c.requires.can_step.fits;
  same = (refl, refl, refl);
})

pub returns-in-CloseParen-clause-performs : goal.returns-in-CloseParen-clause-performs
returns-in-CloseParen-clause-performs g c = alone (advanced g.V.Output c.args.output.now c.args.continuation c.queue_text.ensures.performs)

pub returns-in-Type-clause-performs : goal.returns-in-Type-clause-performs
returns-in-Type-clause-performs g c = alone (subst (λ (p : Continuation). Performed g.V.Output p c.args.self.now c.args.output.now c.type_.result c.type_.new.self
    c.type_.new.output)
    (type_point c.args.continuation c.may_have_splat.result c.in-Type.is c.may_have_splat.ensures.yes c.may_have_splat.ensures.no)
    c.type_.ensures)

pub returns-in-NestedName-clause-performs : goal.returns-in-NestedName-clause-performs
returns-in-NestedName-clause-performs g c = alone (rw c.in-NestedName.is c.nested_name.ensures.performs)

pub returns-in-InherentImplPath-clause-performs : goal.returns-in-InherentImplPath-clause-performs
returns-in-InherentImplPath-clause-performs g c = alone (rw c.in-InherentImplPath.is (advanced_without_output g.V.Output c.args.output.now
    continuation.InherentImplPath (λ is_printed. sym (rw c.in-InherentImplPath.is at c.requires.unskipped is_printed))
    c.read_impl_path.ensures))

pub returns-in-TraitImplPath-clause-performs : goal.returns-in-TraitImplPath-clause-performs
returns-in-TraitImplPath-clause-performs g c = alone (rw c.in-TraitImplPath.is (advanced_without_output g.V.Output c.args.output.now continuation.TraitImplPath
    (λ is_printed. sym (rw c.in-TraitImplPath.is at c.requires.unskipped is_printed))
    c.read_impl_path-in-TraitImplPath.ensures))

pub returns-in-InherentSelfType-clause-performs : goal.returns-in-InherentSelfType-clause-performs
returns-in-InherentSelfType-clause-performs g c = alone (rw c.in-InherentSelfType.is (advanced g.V.Output c.args.output.now continuation.InherentSelfType
    c.self_type.ensures))

pub returns-in-TraitSelfType-clause-performs : goal.returns-in-TraitSelfType-clause-performs
returns-in-TraitSelfType-clause-performs g c = alone (rw c.in-TraitSelfType.is (advanced g.V.Output c.args.output.now continuation.TraitSelfType
    c.self_type-in-TraitSelfType.ensures))

pub returns-in-AsTrait-clause-performs : goal.returns-in-AsTrait-clause-performs
returns-in-AsTrait-clause-performs g c = alone (rw c.in-AsTrait.is (advanced g.V.Output c.args.output.now continuation.AsTrait c.as_trait.ensures))

pub returns-in-Generic-clause-performs : goal.returns-in-Generic-clause-performs
returns-in-Generic-clause-performs g c = alone (rw c.in-Generic.is (advanced g.V.Output c.args.output.now continuation.Generic
    c.generic.ensures))

pub returns-in-FirstArgument-clause-performs : goal.returns-in-FirstArgument-clause-performs
returns-in-FirstArgument-clause-performs g c = alone (rw c.in-FirstArgument.is (advanced_unfolded g.V.Output c.args.output.now true
    continuation.FirstArgument (unless_both g.V.Output.is_printed _ (rw c.in-FirstArgument.is at c.requires.unskipped))
    c.arguments.ensures))

pub returns-in-NextArgument-clause-performs : goal.returns-in-NextArgument-clause-performs
returns-in-NextArgument-clause-performs g c = alone (rw c.in-NextArgument.is (advanced_unfolded g.V.Output c.args.output.now false
    continuation.NextArgument refl c.arguments-in-NextArgument.ensures))

pub returns-in-ArrayLength-clause-performs : goal.returns-in-ArrayLength-clause-performs
returns-in-ArrayLength-clause-performs g c = alone (rw c.in-ArrayLength.is c.array_length.ensures)

pub returns-in-FirstTupleType-clause-performs : goal.returns-in-FirstTupleType-clause-performs
returns-in-FirstTupleType-clause-performs g c = alone (rw c.in-FirstTupleType.is (advanced g.V.Output c.args.output.now
    continuation.FirstTupleType c.first_tuple_type.ensures))

pub returns-in-SecondTupleType-clause-performs : goal.returns-in-SecondTupleType-clause-performs
returns-in-SecondTupleType-clause-performs g c = alone (rw c.in-SecondTupleType.is (advanced g.V.Output c.args.output.now
    continuation.SecondTupleType c.second_tuple_type.ensures))

pub returns-in-NextTupleType-clause-performs : goal.returns-in-NextTupleType-clause-performs
returns-in-NextTupleType-clause-performs g c = alone (rw c.in-NextTupleType.is (advanced g.V.Output c.args.output.now
    continuation.NextTupleType c.next_tuple_type.ensures))

pub returns-in-ReferenceLifetime-clause-performs : goal.returns-in-ReferenceLifetime-clause-performs
returns-in-ReferenceLifetime-clause-performs g c = alone (rw c.in-ReferenceLifetime.is c.reference_lifetime.ensures)

pub returns-in-MutReferenceLifetime-clause-performs : goal.returns-in-MutReferenceLifetime-clause-performs
returns-in-MutReferenceLifetime-clause-performs g c = alone (rw c.in-MutReferenceLifetime.is
    c.reference_lifetime-in-MutReferenceLifetime.ensures)

pub returns-in-FunctionQualifiers-clause-performs : goal.returns-in-FunctionQualifiers-clause-performs
returns-in-FunctionQualifiers-clause-performs g c = alone (rw c.in-FunctionQualifiers.is c.out_of_line-in-FunctionQualifiers.ensures)

pub returns-in-FirstParameter-clause-performs : goal.returns-in-FirstParameter-clause-performs
returns-in-FirstParameter-clause-performs g c = alone (rw c.in-FirstParameter.is (advanced g.V.Output c.args.output.now
    continuation.FirstParameter c.parameter.ensures))

pub returns-in-NextParameter-clause-performs : goal.returns-in-NextParameter-clause-performs
returns-in-NextParameter-clause-performs g c = alone (rw c.in-NextParameter.is (advanced g.V.Output c.args.output.now
    continuation.NextParameter c.parameter-in-NextParameter.ensures))

pub returns-in-Returns-clause-performs : goal.returns-in-Returns-clause-performs
returns-in-Returns-clause-performs g c = alone (rw c.in-Returns.is (advanced g.V.Output c.args.output.now continuation.Returns
    c.returns.ensures))

pub returns-in-DynBinder-clause-performs : goal.returns-in-DynBinder-clause-performs
returns-in-DynBinder-clause-performs g c = alone (rw c.in-DynBinder.is c.out_of_line-in-DynBinder.ensures)

pub returns-in-FirstDynTrait-clause-performs : goal.returns-in-FirstDynTrait-clause-performs
returns-in-FirstDynTrait-clause-performs g c = alone (rw c.in-FirstDynTrait.is (advanced g.V.Output c.args.output.now
    continuation.FirstDynTrait c.dyn_trait.ensures.performs))

pub returns-in-NextDynTrait-clause-performs : goal.returns-in-NextDynTrait-clause-performs
returns-in-NextDynTrait-clause-performs g c = alone (rw c.in-NextDynTrait.is (advanced g.V.Output c.args.output.now continuation.NextDynTrait
    c.dyn_trait-in-NextDynTrait.ensures.performs))

pub returns-in-TraitPath-clause-performs : goal.returns-in-TraitPath-clause-performs
returns-in-TraitPath-clause-performs g c = alone (rw c.in-TraitPath.is c.trait_path.ensures)

pub returns-in-FirstTraitArgument-clause-performs : goal.returns-in-FirstTraitArgument-clause-performs
returns-in-FirstTraitArgument-clause-performs g c = alone (rw c.in-FirstTraitArgument.is (advanced_unfolded g.V.Output c.args.output.now
    true continuation.FirstTraitArgument (unless_both g.V.Output.is_printed _ (rw c.in-FirstTraitArgument.is at
    c.requires.unskipped)) c.trait_argument.ensures))

pub returns-in-FoldedTraitArguments-clause-performs : goal.returns-in-FoldedTraitArguments-clause-performs
returns-in-FoldedTraitArguments-clause-performs g c = alone (rw c.in-FoldedTraitArguments.is (advanced g.V.Output c.args.output.now
    continuation.FoldedTraitArguments c.folded_trait_arguments.ensures))

pub returns-in-NextTraitArgument-clause-performs : goal.returns-in-NextTraitArgument-clause-performs
returns-in-NextTraitArgument-clause-performs g c = alone (rw c.in-NextTraitArgument.is (advanced_unfolded g.V.Output c.args.output.now
    false continuation.NextTraitArgument refl c.trait_argument-in-NextTraitArgument.ensures))

pub returns-in-Bindings-clause-performs : goal.returns-in-Bindings-clause-performs
returns-in-Bindings-clause-performs g c = alone (rw c.in-Bindings.is (advanced g.V.Output c.args.output.now continuation.Bindings
    c.bindings.ensures))

pub returns-in-FurtherBindings-clause-performs : goal.returns-in-FurtherBindings-clause-performs
returns-in-FurtherBindings-clause-performs g c = alone (rw c.in-FurtherBindings.is (advanced g.V.Output c.args.output.now continuation.FurtherBindings
    c.further_bindings.ensures))

pub returns-in-BindingName-clause-performs : goal.returns-in-BindingName-clause-performs
returns-in-BindingName-clause-performs g c = alone (rw c.in-BindingName.is c.out_of_line-in-BindingName.ensures)

pub returns-in-BindingValue-clause-performs : goal.returns-in-BindingValue-clause-performs
returns-in-BindingValue-clause-performs g c = alone (rw c.in-BindingValue.is (advanced g.V.Output c.args.output.now continuation.BindingValue
    c.bound_value.ensures))

pub returns-in-DynLifetime-clause-performs : goal.returns-in-DynLifetime-clause-performs
returns-in-DynLifetime-clause-performs g c = alone (rw c.in-DynLifetime.is c.out_of_line-in-DynLifetime.ensures)

pub returns-in-Pattern-clause-performs : goal.returns-in-Pattern-clause-performs
returns-in-Pattern-clause-performs g c = alone (rw c.in-Pattern.is (advanced g.V.Output c.args.output.now continuation.Pattern c.pattern.ensures))

pub returns-in-NextPattern-clause-performs : goal.returns-in-NextPattern-clause-performs
returns-in-NextPattern-clause-performs g c = alone (rw c.in-NextPattern.is (advanced g.V.Output c.args.output.now continuation.NextPattern c.next_pattern.ensures))

pub returns-in-Constant-clause-performs : goal.returns-in-Constant-clause-performs
returns-in-Constant-clause-performs g c = alone (rw c.in-Constant.is c.out_of_line-in-Constant.ensures)

pub returns-in-Number-clause-performs : goal.returns-in-Number-clause-performs
returns-in-Number-clause-performs g c = alone (rw c.in-Number.is c.out_of_line-in-Number.ensures)

pub returns-in-StrLiteral-clause-performs : goal.returns-in-StrLiteral-clause-performs
returns-in-StrLiteral-clause-performs g c = alone (rw c.in-StrLiteral.is c.out_of_line-in-StrLiteral.ensures)

pub returns-in-FirstArrayConstant-clause-performs : goal.returns-in-FirstArrayConstant-clause-performs
returns-in-FirstArrayConstant-clause-performs g c = alone (rw c.in-FirstArrayConstant.is (advanced g.V.Output c.args.output.now continuation.FirstArrayConstant
    c.first_list_constant.ensures))

pub returns-in-NextArrayConstant-clause-performs : goal.returns-in-NextArrayConstant-clause-performs
returns-in-NextArrayConstant-clause-performs g c = alone (rw c.in-NextArrayConstant.is (advanced g.V.Output c.args.output.now continuation.NextArrayConstant
    c.next_list_constant.ensures))

pub returns-in-FirstTupleConstant-clause-performs : goal.returns-in-FirstTupleConstant-clause-performs
returns-in-FirstTupleConstant-clause-performs g c = alone (rw c.in-FirstTupleConstant.is (advanced g.V.Output c.args.output.now continuation.FirstTupleConstant
    c.first_list_constant-in-FirstTupleConstant.ensures))

pub returns-in-NextTupleConstant-clause-performs : goal.returns-in-NextTupleConstant-clause-performs
returns-in-NextTupleConstant-clause-performs g c = alone (rw c.in-NextTupleConstant.is (advanced g.V.Output c.args.output.now continuation.NextTupleConstant
    c.next_list_constant-in-NextTupleConstant.ensures))

pub returns-in-FirstVariantConstant-clause-performs : goal.returns-in-FirstVariantConstant-clause-performs
returns-in-FirstVariantConstant-clause-performs g c = alone (rw c.in-FirstVariantConstant.is (advanced g.V.Output c.args.output.now continuation.FirstVariantConstant
    c.first_list_constant-in-FirstVariantConstant.ensures))

pub returns-in-NextVariantConstant-clause-performs : goal.returns-in-NextVariantConstant-clause-performs
returns-in-NextVariantConstant-clause-performs g c = alone (rw c.in-NextVariantConstant.is (advanced g.V.Output c.args.output.now continuation.NextVariantConstant
    c.next_list_constant-in-NextVariantConstant.ensures))

pub returns-in-FirstField-clause-performs : goal.returns-in-FirstField-clause-performs
returns-in-FirstField-clause-performs g c = alone (rw c.in-FirstField.is (advanced g.V.Output c.args.output.now continuation.FirstField
    c.first_list_constant-in-FirstField.ensures))

pub returns-in-NextField-clause-performs : goal.returns-in-NextField-clause-performs
returns-in-NextField-clause-performs g c = alone (rw c.in-NextField.is (advanced g.V.Output c.args.output.now continuation.NextField
    c.next_list_constant-in-NextField.ensures))

pub returns-in-SecondTupleConstant-clause-performs : goal.returns-in-SecondTupleConstant-clause-performs
returns-in-SecondTupleConstant-clause-performs g c = alone (rw c.in-SecondTupleConstant.is (advanced g.V.Output c.args.output.now continuation.SecondTupleConstant
    c.second_tuple_constant.ensures))

pub returns-in-Variant-clause-performs : goal.returns-in-Variant-clause-performs
returns-in-Variant-clause-performs g c = alone (rw c.in-Variant.is c.out_of_line-in-Variant.ensures)

pub returns-in-Field-clause-performs : goal.returns-in-Field-clause-performs
returns-in-Field-clause-performs g c = alone (rw c.in-Field.is c.out_of_line-in-Field.ensures)

pub returns-in-AfterBackref-clause-performs : goal.returns-in-AfterBackref-clause-performs
returns-in-AfterBackref-clause-performs g c = alone (rw c.in-AfterBackref.is c.after_backref.ensures)
