use Rattle.sedck_engines.proofs.Common.{◌++◌, ap, ap₂, ◌∙◌, files_text}
use Rattle.std.proofs.lemmas.Result.{IfOk-weaker}
use Rattle.sedck_script.specs.Names.{reads, writes}
use Rattle.sedck_cert.proofs.NamesListed.{reads_listed, writes_listed}
use Rattle.sedck_engines.proofs.report.files_report.Goals as goal

pub returns : goal.returns
returns c = IfOk-weaker c.with_files.result _ _
    (λ report is. record {
      reads = reads c.args.script.now;
      writes = writes c.args.script.now;
      lists_reads = reads_listed c.args.script.now;
      lists_writes = writes_listed c.args.script.now;
      is_report = is ∙ ap₂ (λ r w. c.new.result.items ++ files_text r w) c.reads.ensures c.writes.ensures
          ∙ ap (λ front. front ++ files_text (reads c.args.script.now) (writes c.args.script.now)) c.new.ensures.items;
    }) c.with_files.ensures
