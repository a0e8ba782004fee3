use Rattle.sedck_expressions.proofs.brackets.elements.class_members.Goals as goal

pub returns-in-Alpha : goal.returns-in-Alpha
returns-in-Alpha c = rw c.in-Alpha.is (c.union.ensures _ _ c.range-in-Alpha.ensures c.range-in-Alpha-2.ensures)

pub returns-in-Alnum : goal.returns-in-Alnum
returns-in-Alnum c = rw c.in-Alnum.is (c.union-in-Alnum-2.ensures _ _
    (c.union-in-Alnum.ensures _ _ c.range-in-Alnum.ensures c.range-in-Alnum-2.ensures) c.range-in-Alnum-3.ensures)

pub returns-in-Xdigit : goal.returns-in-Xdigit
returns-in-Xdigit c = rw c.in-Xdigit.is (c.union-in-Xdigit-2.ensures _ _
    (c.union-in-Xdigit.ensures _ _ c.range-in-Xdigit.ensures c.range-in-Xdigit-2.ensures) c.range-in-Xdigit-3.ensures)

pub returns-in-Space : goal.returns-in-Space
returns-in-Space c = rw c.in-Space.is (c.union-in-Space.ensures _ _ c.range-in-Space.ensures c.single.ensures)

pub returns-in-Blank : goal.returns-in-Blank
returns-in-Blank c = rw c.in-Blank.is (c.union-in-Blank.ensures _ _ c.single-in-Blank.ensures c.single-in-Blank-2.ensures)

pub returns-in-Cntrl : goal.returns-in-Cntrl
returns-in-Cntrl c = rw c.in-Cntrl.is (c.union-in-Cntrl.ensures _ _ c.range-in-Cntrl.ensures c.single-in-Cntrl.ensures)
