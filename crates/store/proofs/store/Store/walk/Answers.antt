use Rattle.std.proofs.Common.{[], refl, ◌∙◌, arith}
use Rattle.store.specs.Stored.{stored}
use Rattle.store.proofs.Walking.{reopened_laid, reopened_ahead}
use Rattle.store.proofs.store.Store.walk.Goals as goal

pub invariant_of-result : goal.invariant_of-result
invariant_of-result c =
    let s = c.args.self.now in
    record {
      laid = reopened_laid [] (stored s) (c.as_slice.ensures.value ∙ s.laid.0) (c.as_slice-2.ensures.value ∙ s.laid.1) (c.as_slice-3.ensures.value ∙ s.laid.2) refl;
      small = omega (arith, c.as_slice-3.ensures.at_most);
    }

pub returns : goal.returns
returns c =
    let s = c.args.self.now in
    reopened_ahead [] (stored s) (c.as_slice.ensures.value ∙ s.laid.0) (c.as_slice-2.ensures.value ∙ s.laid.1) (c.as_slice-3.ensures.value ∙ s.laid.2) refl
