use Rattle.sedck_explain_cli.proofs.Common.{arith, ◌≡◌, ◌∙◌, ap, Asked, texts_of, asked_of}
use Rattle.std.proofs.Common.{rules}
use Rattle.std.proofs.lemmas.Grind.{common_steps}
use Rattle.sedck_explain_cli.specs.Readings.{read}
use Rattle.sedck_explain_cli.specs.Requests.{denied_by, is_plain_name}
use Rattle.sedck_explain_cli.proofs.request.request_of.Goals as goal

-- what the words ask for is what was read of them
pub returns : goal.returns
returns c =
    let same : asked_of c.in_ok-certificate.field-0 ≡ read (texts_of c.args.words.now) = c.in_ok-certificate.ensures in
    record {
      certificate = ap (λ (a : Asked). a.certificate) same;
      denied = c.denied_of.ensures ∙ rw (c.deref.ensures.value, c.deref-2.ensures.value) (ap (λ (a : Asked). denied_by a.denied a.allowed a.locale) same);
      plain = c.format_of-format.ensures ∙ ap (λ (a : Asked). is_plain_name a.format) same;
      sed = ap (λ (a : Asked). a.sed) same;
      calls = ap (λ (a : Asked). a.calls) same;
      mends = ap (λ (a : Asked). a.mends) same;
      scripts = first_of (search rules, grind (arith, common_steps));
    }
