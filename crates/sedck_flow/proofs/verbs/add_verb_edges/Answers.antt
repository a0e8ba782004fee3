use Rattle.sedck_flow.proofs.Common.{inl, inr, substitution_of, address_of}
use Rattle.sedck_flow.proofs.VerbLemmas.{drops, reads, substitutes, other_verb}
use Rattle.sedck_flow.proofs.verbs.add_verb_edges.Goals as goal

pub returns-in-Branch-clause-edges : goal.returns-in-Branch-clause-edges
returns-in-Branch-clause-edges c = rw c.in-Branch.is (rw c.to.ensures at c.add.ensures.edges)

pub returns-in-Change-clause-edges : goal.returns-in-Change-clause-edges
returns-in-Change-clause-edges c = rw c.in-Change.is (c.add_change_edges.ensures.edges c.args.script.now c.in-Change.field-0.now)

pub returns-in-Delete-clause-edges : goal.returns-in-Delete-clause-edges
returns-in-Delete-clause-edges c = rw c.in-Delete.is (rw c.start-start.ensures at c.add_line.ensures.edges)

pub returns-in-DeleteFirstLine-clause-edges : goal.returns-in-DeleteFirstLine-clause-edges
returns-in-DeleteFirstLine-clause-edges c =
    let start = c.start-start.ensures in
    rw c.in-DeleteFirstLine.is
    (drops c.args.script.now (address_of c.args.command.now.address) c.args.from _ _ _ _ (rw start at c.add_line-in-DeleteFirstLine.ensures.edges)
    (rw (c.with_flag.ensures, start) at c.add-in-DeleteFirstLine.ensures.edges) (rw start at c.add-in-DeleteFirstLine-2.ensures.edges))

pub returns-in-Substitute-clause-edges : goal.returns-in-Substitute-clause-edges
returns-in-Substitute-clause-edges c =
    let onward = c.next-onward.ensures in
    rw c.in-Substitute.is
    (substitutes c.args.script.now (address_of c.args.command.now.address) (substitution_of c.in-Substitute.substitution) _ c.args.from _ _ _
    c.success_kind.ensures (rw onward at c.add-in-Substitute.ensures.edges) (rw (c.with_flag-in-Substitute.ensures, onward) at c.add-in-Substitute-2.ensures.edges))

pub returns-in-Test-clause-edges : goal.returns-in-Test-clause-edges
returns-in-Test-clause-edges c = rw c.in-Test.is (rw c.node_after_test.ensures at c.add-in-Test.ensures.edges)

pub returns-in-Next-clause-edges : goal.returns-in-Next-clause-edges
returns-in-Next-clause-edges c =
    let onward = c.next-onward.ensures in
    let edges = reads c.args.script.now (address_of c.args.command.now.address) c.args.from _ _ _ (rw onward at c.add_line-in-Next.ensures.edges)
    (rw (c.with_flag-in-Next.ensures, onward) at c.add_line-in-Next-2.ensures.edges) in
    elim c.in-Next.is [ inl is ↦ rw is edges | inr is ↦ rw is edges ]

pub returns-in-Exchange-clause-edges : goal.returns-in-Exchange-clause-edges
returns-in-Exchange-clause-edges c =
    let edges = rw c.next-onward.ensures at c.add-in-Exchange.ensures.edges in
    elim c.in-Exchange.is [ inl is ↦ rw is edges | inr (inl is) ↦ rw is edges | inr (inr is) ↦ rw is edges ]

pub returns-in_default-clause-edges : goal.returns-in_default-clause-edges
returns-in_default-clause-edges c =
    let d = c.in_default in
    other_verb c.args.script.now (address_of c.args.command.now.address) c.args.command.now.verb c.args.from _ _ d.not-Branch d.not-Test d.not-Change
    d.not-Substitute d.not-Delete d.not-DeleteFirstLine d.not-Get d.not-GetAppend d.not-Next d.not-NextAppend d.not-Quit d.not-Exchange
    (rw c.next-onward.ensures at c.add-in_default.ensures.edges)
