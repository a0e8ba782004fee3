use Rattle.sedck_search.proofs.Common.{sym, ◌∙◌, subst, Edge, Keep, Grow, AreCounted, ArePartlyCounted, Kept, Unread, Closes, IsFirstClosing, Idle, Growing}
use Rattle.sedck_search.proofs.ClosedWalks.{closes_back, idle_loop, growing_loop}
use Rattle.sedck_search.proofs.SameRanks.{same_counts, none_grows}
use Rattle.sedck_search.proofs.searching.search.Goals as goal

pub loop_from-requires-clause-closing : goal.loop_from-requires-clause-closing
loop_from-requires-clause-closing c =
    let p = c.args.script.now in
    let first = subst (λ counts. IsFirstClosing p Keep counts c.in-Some.edge) c.deref-2.ensures.value c.in-Some.ensures in
    closes_back p c.in_ok-table.ensures.script Idle c.in_ok-seconds.seconds.items c.in_ok-seconds.ensures c.in-Some.edge first.closes

pub returns-in-Some : goal.returns-in-Some
returns-in-Some c =
    let p = c.args.script.now in
    let first = subst (λ counts. IsFirstClosing p Keep counts c.in-Some.edge) c.deref-2.ensures.value c.in-Some.ensures in
    idle_loop p c.in_ok-table.ensures.script c.in_ok-seconds.seconds.items c.in_ok-seconds.ensures c.in-Some.edge first
    c.in_ok-loop_from.field-0 c.in_ok-loop_from.ensures

pub loop_from-requires-in-Some-first_closing-clause-closing : goal.loop_from-requires-in-Some-first_closing-clause-closing
loop_from-requires-in-Some-first_closing-clause-closing c =
    let p = c.args.script.now in
    let first = subst (λ counts. IsFirstClosing p Grow counts c.in-Some-first_closing.edge) c.deref-4.ensures.value c.in-Some-first_closing.ensures in
    closes_back p c.in_ok-table.ensures.script Growing c.in_ok-firsts.firsts.items c.in_ok-firsts.ensures c.in-Some-first_closing.edge first.closes

pub returns-in-Some-first_closing : goal.returns-in-Some-first_closing
returns-in-Some-first_closing c =
    let p = c.args.script.now in
    let none = subst (λ counts. (e : Edge) → ¬ Closes p Keep counts e) c.deref-2.ensures.value c.in_default.ensures in
    let first = subst (λ counts. IsFirstClosing p Grow counts c.in-Some-first_closing.edge) c.deref-4.ensures.value c.in-Some-first_closing.ensures in
    growing_loop p c.in_ok-table.ensures.script c.in_ok-seconds.seconds.items c.in_ok-seconds.ensures none c.in_ok-firsts.firsts.items
    c.in_ok-firsts.ensures c.in-Some-first_closing.edge first c.in_ok-loop_from-2.field-0 c.in_ok-loop_from-2.ensures

-- both ranks are the same
pub certificate-requires-clause-firsts : goal.certificate-requires-clause-firsts
certificate-requires-clause-firsts c =
    subst (AreCounted c.args.script.now Unread) (sym c.deref-then-keeps_space.ensures.value)
    (same_counts c.args.script.now c.if-keeps_space.ensures c.in_ok-seconds.seconds.items c.in_ok-seconds.ensures)

pub certificate-requires-clause-idle : goal.certificate-requires-clause-idle
certificate-requires-clause-idle c =
    subst (λ counts. (e : Edge) → ¬ Closes c.args.script.now Keep counts e) (c.deref-2.ensures.value ∙ sym c.deref-then-keeps_space-2.ensures.value)
    c.in_default.ensures

pub certificate-requires-clause-growing : goal.certificate-requires-clause-growing
certificate-requires-clause-growing c =
    none_grows c.args.script.now c.if-keeps_space.ensures c.deref-then-keeps_space.result.now

pub certificate-requires-2-clause-idle : goal.certificate-requires-2-clause-idle
certificate-requires-2-clause-idle c =
    subst (λ counts. (e : Edge) → ¬ Closes c.args.script.now Keep counts e) (c.deref-2.ensures.value ∙ sym c.deref-6.ensures.value) c.in_default.ensures

pub certificate-requires-2-clause-growing : goal.certificate-requires-2-clause-growing
certificate-requires-2-clause-growing c =
    subst (λ counts. (e : Edge) → ¬ Closes c.args.script.now Grow counts e)
    (c.deref-4.ensures.value ∙ sym c.deref-5.ensures.value) c.in_default-first_closing.ensures

pub counts_of-requires-clause-marks : goal.counts_of-requires-clause-marks
counts_of-requires-clause-marks c =
    subst (λ marks. ArePartlyCounted c.args.script.now Kept marks) (sym c.deref.ensures.value) (c.in_ok-marks.ensures.marks Kept)

pub counts_of-requires-2-clause-marks : goal.counts_of-requires-2-clause-marks
counts_of-requires-2-clause-marks c =
    subst (λ marks. ArePartlyCounted c.args.script.now Unread marks) (sym c.deref-3.ensures.value) (c.in_ok-marks.ensures.marks Unread)
