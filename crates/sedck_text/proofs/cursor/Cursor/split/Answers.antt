use Rattle.std.proofs.Common.{◌≡◌, ◌∙◌, ap, take}
use Rattle.std.specs.List.{prefix_len}
use Rattle.sedck_text.specs.Classes.{is_of}
use Rattle.sedck_text.specs.Cursors.{unread}
use Rattle.sedck_text.proofs.Runs.{longest_parts}
use Rattle.sedck_text.proofs.Cursors.{unread_ahead}
use Rattle.sedck_text.proofs.cursor.Cursor.split.Goals as goal

pub returns-clause-run : goal.returns-clause-run
returns-clause-run c =
    let text : c.unread-text.result.now ≡ unread c.args.self = c.unread-text.ensures in
    longest_parts (is_of c.args.class) (unread c.args.self) _ _ c.run_length-count.result
    (c.run_length-count.ensures.value ∙ ap (λ t. prefix_len (is_of c.args.class) t) text) (ap (λ t. take c.run_length-count.result t) text)
    (unread_ahead c.advance.ensures)
