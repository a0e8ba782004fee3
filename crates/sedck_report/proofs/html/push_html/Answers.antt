use Rattle.std.proofs.Common.{◌++◌, ◌<◌, length, get_or, take, append_assoc, sym, ap, subst, ◌∙◌}
use Rattle.sedck_report.specs.Html.{html_byte, html_text}
use Rattle.sedck_report.proofs.HtmlLemmas.{html_text-more, html_text-plain}
use Rattle.sedck_report.proofs.html.push_html.Goals as goal

-- the bytes so far, and this one
pub loop-byte-preserved : goal.loop-byte-preserved
loop-byte-preserved c =
    let i = c.loop-byte.byte-index in
    let bytes = c.args.words.now in
    let before = c.args.out.now.items in
    let same = c.as_bytes-byte-items.ensures.value in
    c.in_ok-push_html_byte.ensures ∙ ap (λ t. c.loop-byte.out.items ++ html_byte (get_or t i 0)) same
    ∙ ap (λ t. t ++ html_byte (get_or bytes i 0)) c.loop-byte.invariant
    ∙ append_assoc before (html_text (take i bytes)) (html_byte (get_or bytes i 0))
    ∙ ap (λ t. before ++ t) (sym (html_text-more bytes i (subst (λ t. i < length t) same c.loop-byte-test.true)))

pub returns-clause-plain : goal.returns-clause-plain
returns-clause-plain c = html_text-plain c.args.words.now

pub returns-in_err-push_html_byte-clause-plain : goal.returns-in_err-push_html_byte-clause-plain
returns-in_err-push_html_byte-clause-plain c = html_text-plain c.args.words.now
