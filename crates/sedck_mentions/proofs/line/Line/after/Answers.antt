use Rattle.std.proofs.Common.{◌≡◌, ◌≤◌, ◌+◌, ◌-◌, ◌∙◌, sym, subst, ap, length, drop, length-drop, arith}
use Rattle.std.specs.Prelude.{if◌then◌else◌}
use Rattle.std.proofs.lemmas.List.{take_all}
use Rattle.sedck_mentions.specs.Lines.{path_start, is_comment}
use Rattle.sedck_mentions.specs.Private.Pass.{line_at}
use Rattle.sedck_mentions.proofs.Here.{made, after_newline, after_other}
use Rattle.sedck_mentions.proofs.line.Line.after.Goals as goal

pub returns-then-byte-eq10 : goal.returns-then-byte-eq10
returns-then-byte-eq10 c =
    let short : length (drop (c.args.offset + 1) c.args.file.now) ≤ length c.args.file.now - (c.args.offset + 1) =
    omega (arith, length-drop (c.args.offset + 1) c.args.file.now) in
    after_newline c.args.has_macros c.args.file.now c.args.offset c.is_comment.result c.requires.within c.if-byte-eq10.true
    (c.is_comment.ensures ∙ ap (is_comment c.args.has_macros) (take_all (length c.args.file.now - (c.args.offset + 1)) (drop (c.args.offset + 1) c.args.file.now) short))

pub returns-then-is_path_byte : goal.returns-then-is_path_byte
returns-then-is_path_byte c =
    subst (λ line. made line.start line.path line.is_comment ≡ line_at c.args.has_macros c.args.file.now (c.args.offset + 1)) (sym c.requires.line)
    (after_other c.args.has_macros c.args.file.now c.args.offset (path_start c.args.file.now c.args.offset) c.requires.within c.if-byte-eq10.false
    (ap (λ goes_on. if goes_on then path_start c.args.file.now c.args.offset else c.args.offset + 1) c.if-is_path_byte.ensures))

pub returns-else-is_path_byte : goal.returns-else-is_path_byte
returns-else-is_path_byte c =
    subst (λ line. made line.start (c.args.offset + 1) line.is_comment ≡ line_at c.args.has_macros c.args.file.now (c.args.offset + 1)) (sym c.requires.line)
    (after_other c.args.has_macros c.args.file.now c.args.offset (c.args.offset + 1) c.requires.within c.if-byte-eq10.false
    (ap (λ goes_on. if goes_on then path_start c.args.file.now c.args.offset else c.args.offset + 1) c.if-is_path_byte.ensures))
