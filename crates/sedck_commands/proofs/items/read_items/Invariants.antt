use Rattle.sedck_commands.proofs.Common.{◌≡◌, length, unread, IsProgress}
use Rattle.sedck_commands.proofs.items.read_items.Given as goal

abbrev pub invariant-loop-first : goal.invariant-loop-first
invariant-loop-first l = record {
  progress : IsProgress l.text (unread l.rest) l.progress;
  same : l.rest.whole.now ≡ l.text;
}

abbrev pub decreases-loop-first : goal.decreases-loop-first
decreases-loop-first l = length (unread l.rest)
