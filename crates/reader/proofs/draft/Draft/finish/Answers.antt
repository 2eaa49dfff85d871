use Rattle.addresses.specs.Lent.{lent}
use Rattle.reader.proofs.SoFars.{member_added}
use Rattle.reader.proofs.draft.Draft.finish.Goals as goal

pub invariant_of-self : goal.invariant_of-self
invariant_of-self c =
    (member_added _ _ _ (lent c.args.mailbox) _ _ c.if-self.true c.self.view_is c.self.invariant c.push_member.ensures.fits c.push_member.ensures.after).opened

pub returns-then-self : goal.returns-then-self
returns-then-self c =
    let told = member_added _ _ _ (lent c.args.mailbox) _ _ c.if-self.true c.self.view_is c.self.invariant c.push_member.ensures.fits c.push_member.ensures.after in
    record { fits = told.fits; after = told.after }
