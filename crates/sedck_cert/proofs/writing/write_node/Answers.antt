use Rattle.sedck_cert.proofs.Common.{ap, ◌∙◌, subst, ◌-◌, ◌%◌, ◌++◌, ◌∷◌, drop, OnErr, decimal, arith, AppendsPrefix, length-drop}
use Rattle.std.proofs.Common.{◌/◌}
use Rattle.std.proofs.lemmas.List.{take_all}
use Rattle.sedck_cert.proofs.Pieces.{node_pieces}
use Rattle.sedck_cert.proofs.writing.write_node.Goals as goal

pub returns-clause-begun : goal.returns-clause-begun
returns-clause-begun g c =
    let start = c.put_field-start-3.result in
    let buffer = c.put_field-start-3.new.buffer in
    let all = take_all (32 - start) (drop start buffer) (omega (arith, length-drop start buffer, c.put_field-start-3.array_long)) in
    let whole = all ∙ c.put_field-start-3.ensures.put ∙ ap (λ rest. decimal (c.args.index / 4) ++ 32 ∷ rest)
    (c.put_field-start-2.ensures.put ∙ ap (λ rest. decimal (c.args.index / 2 % 2) ++ 32 ∷ rest)
    (c.put_field-start.ensures.put ∙ ap (λ rest. decimal (c.args.index % 2) ++ 32 ∷ rest) c.put_ranks-start.ensures.put))
    ∙ node_pieces c.args.index c.args.ranks in
    subst (λ text. OnErr c.write_all.result (AppendsPrefix (g.W.Sink.taken c.args.out.now) (g.W.Sink.taken c.write_all.new.out) text)) whole
    c.write_all.ensures.begun
