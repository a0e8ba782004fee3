use Rattle.sedck_cert.proofs.Common.{inr, names_of}
use Rattle.sedck_cert.proofs.LineLemmas.{leads_on}
use Rattle.sedck_cert.proofs.WholeReading.{refused_later, whole_text}
use Rattle.sedck_cert.proofs.NameLimits.{names-few}
use Rattle.sedck_cert.proofs.reading.read_lines.Goals as goal

pub returns-in_err-commands-clause-refused : goal.returns-in_err-commands-clause-refused
returns-in_err-commands-clause-refused c =
    refused_later c.from_residual-in_err-commands.result c.from_residual-in_err-commands.ensures.1 c.new-lines.ensures.rest c.new-lines.ensures.number
    c.in_ok-header.ensures.read (inr c.in_err-commands.ensures.refused)

pub returns-in_err-ranks-clause-refused : goal.returns-in_err-ranks-clause-refused
returns-in_err-ranks-clause-refused c =
    refused_later c.from_residual-in_err-ranks.result c.from_residual-in_err-ranks.ensures.1 c.new-lines.ensures.rest c.new-lines.ensures.number
    (leads_on c.in_ok-header.ensures.read c.in_ok-commands.ensures.read.1) c.in_err-ranks.ensures.refused

pub returns-in_err-reads-clause-refused : goal.returns-in_err-reads-clause-refused
returns-in_err-reads-clause-refused c =
    let ranked = leads_on (leads_on c.in_ok-header.ensures.read c.in_ok-commands.ensures.read.1) c.in_ok-ranks.ensures.read in
    refused_later c.from_residual-in_err-reads.result c.from_residual-in_err-reads.ensures.1 c.new-lines.ensures.rest c.new-lines.ensures.number
    ranked (c.in_err-reads.ensures.refused c.args.version)

pub returns-in_err-writes-clause-refused : goal.returns-in_err-writes-clause-refused
returns-in_err-writes-clause-refused c =
    let ranked = leads_on (leads_on c.in_ok-header.ensures.read c.in_ok-commands.ensures.read.1) c.in_ok-ranks.ensures.read in
    refused_later c.from_residual-in_err-writes.result c.from_residual-in_err-writes.ensures.1 c.new-lines.ensures.rest c.new-lines.ensures.number
    (leads_on ranked (c.in_ok-reads.ensures.read c.args.version)) (c.in_err-writes.ensures.refused c.args.version)

pub returns-in_err-ending-clause-refused : goal.returns-in_err-ending-clause-refused
returns-in_err-ending-clause-refused c =
    let ranked = leads_on (leads_on c.in_ok-header.ensures.read c.in_ok-commands.ensures.read.1) c.in_ok-ranks.ensures.read in
    let named = leads_on ranked (c.in_ok-reads.ensures.read c.args.version) in
    refused_later c.from_residual-in_err-ending.result c.from_residual-in_err-ending.ensures.1 c.new-lines.ensures.rest c.new-lines.ensures.number
    (leads_on named (c.in_ok-writes.ensures.read c.args.version)) (inr (c.in_err-ending.ensures.refused c.args.version))

pub returns-clause-read : goal.returns-clause-read
returns-clause-read c =
    let v = c.args.version in
    whole_text v c.args.text.now c.in_ok-commands.commands c.in_ok-ranks.ranks.items (names_of c.in_ok-reads.reads.items)
    (names_of c.in_ok-writes.writes.items) c.in_ok-reads.size c.in_ok-commands.ensures.read.0 c.in_ok-ranks.ensures.count c.in_ok-ranks.ensures.within
    (names-few _ c.in_ok-reads.ensures.count) (names-few _ c.in_ok-writes.ensures.count) c.in_ok-reads.ensures.within c.new-lines.ensures.rest
    c.in_ok-header.ensures.read c.in_ok-commands.ensures.read.1 c.in_ok-ranks.ensures.read (c.in_ok-reads.ensures.read v) (c.in_ok-writes.ensures.read v)
    (c.in_ok-ending.ensures.read v) c.in_ok-ending.ensures.last
