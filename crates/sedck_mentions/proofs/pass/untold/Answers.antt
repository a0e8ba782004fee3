use Rattle.std.proofs.Common.{◌≡◌, ◌≤◌, ◌<◌, ◌+◌, ◌∙◌, sym, ap, length, get_or, map, max, arith}
use Rattle.sedck_mentions.specs.Words.{is_path_byte}
use Rattle.sedck_mentions.specs.Lines.{path_start}
use Rattle.sedck_mentions.specs.Told.{is_untold_at}
use Rattle.sedck_mentions.specs.Private.Pass.{end_below, place_span}
use Rattle.sedck_mentions.proofs.Ends.{end_below_zero, further_end}
use Rattle.sedck_mentions.proofs.Starts.{start_of_le}
use Rattle.sedck_mentions.proofs.Here.{untold_here, one_more, no_more}
use Rattle.sedck_mentions.proofs.pass.untold.Goals as goal
use Rattle.sedck_mentions.proofs.pass.untold.Goals.{then-is_untold+in_ok-push, else-is_untold}

pub loop-offset-init : goal.loop-offset-init
loop-offset-init c = record {
  offsets = c.new-offsets.ensures.items;
  line = c.first-line.ensures;
  named = sym (end_below_zero c.args.names.now);
  told = sym (end_below_zero (map place_span c.args.places.now));
}

pub is_untold-requires-clause-path : goal.is_untold-requires-clause-path
is_untold-requires-clause-path c =
    let le : path_start c.args.file.now c.loop-offset.offset ≤ c.loop-offset.offset = start_of_le is_path_byte c.args.file.now c.loop-offset.offset in
    omega (arith, ap (λ line. line.path) c.loop-offset.invariant.line)

pub loop-offset-preserved : goal.loop-offset-preserved
loop-offset-preserved c =
    let offset = c.loop-offset.offset in
    let within : offset < length c.args.file.now = c.loop-offset-test.true in
    let passes = is_untold_at c.args.has_macros c.args.file.now c.args.names.now c.args.places.now in
    let named : c.further-named.result ≡ end_below (offset + 1) c.args.names.now =
    further_end offset c.args.names.now c.loop-offset.named (get_or c.in_ok-name_ends.name_ends.items offset 0) c.further-named.result
    c.loop-offset.invariant.named (c.in_ok-name_ends.ensures.ends offset within)
    (c.further-named.ensures ∙ ap (λ ends. max c.loop-offset.named (get_or ends offset 0)) c.deref.ensures.value) in
    let told : c.further-told.result ≡ end_below (offset + 1) (map place_span c.args.places.now) =
    further_end offset (map place_span c.args.places.now) c.loop-offset.told (get_or c.in_ok-place_ends.place_ends.items offset 0) c.further-told.result
    c.loop-offset.invariant.told (c.in_ok-place_ends.ensures.ends offset within)
    (c.further-told.ensures ∙ ap (λ ends. max c.loop-offset.told (get_or ends offset 0)) c.deref-in-loop-offset.ensures.value) in
    let here : c.is_untold.result ≡ passes offset =
    untold_here c.args.has_macros c.args.file.now c.args.names.now c.args.places.now offset c.loop-offset.line c.further-named.result
    c.further-told.result c.is_untold.result c.loop-offset.invariant.line named told c.is_untold.ensures in
    record {
      offsets = elim c.if-is_untold.branch [
        | then-is_untold+in_ok-push w ↦
            one_more passes offset c.loop-offset.offsets.items c.if-is_untold.offsets.items c.loop-offset.invariant.offsets
            (sym w.if-is_untold.true ∙ here) (ap (λ v. v.items) w.offsets-is ∙ w.in_ok-push.ensures.items)
        | else-is_untold w ↦
            no_more passes offset c.loop-offset.offsets.items c.if-is_untold.offsets.items c.loop-offset.invariant.offsets
            (sym w.if-is_untold.false ∙ here) (ap (λ v. v.items) w.offsets-is)
      ];
      line = c.after-line.ensures;
      named = named;
      told = told;
    }
