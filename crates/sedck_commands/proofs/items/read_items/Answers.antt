use Rattle.sedck_commands.proofs.Common.{◌≡◌, length, ap, refl, subst, sym, ◌∙◌, arith, unread, IsProgress, rules}
use Rattle.sedck_commands.proofs.ProgressLemmas.{progress_at, front_none, front_skip, front_done, front_closed}
use Rattle.sedck_commands.proofs.ItemFaults.{faults_back, last_of}
use Rattle.sedck_commands.specs.FirstFaults as first
use Rattle.sedck_commands.proofs.items.read_items.Goals as goal

pub read_item-requires-clause-progress : goal.read_item-requires-clause-progress
read_item-requires-clause-progress c =
    let old = c.loop-first.invariant.progress in
    let run = c.skip-begins.ensures.1 in
    subst (λ t. IsProgress t (unread c.skip-begins.result) c.loop-first.progress) (sym (ap (λ w. w.now) c.skip-begins.ensures.2.whole ∙ c.loop-first.invariant.same))
    (progress_at old (front_skip old.front run) (λ fault x. faults_back run x))

pub loop-first-preserved : goal.loop-first-preserved
loop-first-preserved c =
    let same = ap (λ w. w.now) c.skip-begins.ensures.2.whole ∙ c.loop-first.invariant.same in
    record {
      progress = subst (λ t. IsProgress t (unread c.in_ok-rest.rest) c.read_item.new.progress) same c.in_ok-rest.ensures.progress;
      same = ap (λ w. w.now) c.in_ok-rest.ensures.same ∙ same;
    }

pub returns-clause-read : goal.returns-clause-read
returns-clause-read c =
    let done = c.loop-first.invariant.progress in
    let run = c.skip-begins.ensures.1 in
    let end = ap length c.in_default.ensures.cut in
    let all = front_done done.front run end in
    record {
      spelled = all.0;
      located = all.1;
      nests = front_closed done.front (omega (arith, c.in_default-last.ensures.item.3, ap length c.deref.ensures.value));
      labels = done.labels;
      count = done.count;
      few = done.few;
      label_places = done.label_places;
      empty = done.empty;
    }

pub loop-first-init : goal.loop-first-init
loop-first-init c =
    let text = c.args.text.now in
    let all : unread c.new-rest.result ≡ text = rw (c.new-rest.ensures.at, c.new-rest.ensures.whole) refl in
    record {
      progress = rw all (record {
        front = rw (c.new.ensures.items, c.new-3.ensures.items) front_none;
        labels = search rules;
        count = search rules;
        few = omega arith;
        label_places = search rules;
        empty = search rules;
        faults = rw (c.new.ensures.items, c.new-3.ensures.items) (λ fault x. x);
      });
      same = ap (λ w. w.now) c.new-rest.ensures.whole;
    }

pub returns-in-Some-last-clause-first : goal.returns-in-Some-last-clause-first
returns-in-Some-last-clause-first c = λ memory.
    let done = c.loop-first.invariant.progress in
    let item = c.in-Some-last.ensures.item in
    done.faults _ (first.unclosed _ (rw c.in_default.ensures.cut at c.skip-begins.ensures.1)
    (sym c.deref.ensures.value ∙ last_of c.deref.result.now c.in-Some-last.place.now item.3.0 (item.3.1 0)))

pub returns-in_err-rest-clause-first : goal.returns-in_err-rest-clause-first
returns-in_err-rest-clause-first c = search rules
