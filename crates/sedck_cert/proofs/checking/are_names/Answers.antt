use Rattle.sedck_cert.proofs.Common.{◌≡◌, ℕ, ◌<◌, List, [], length, refl, sym, ap, ◌∙◌, arith, get_or, map, Bor, Global, length-map, names_of, below_more, get_or-map, ext_get_or}
use Rattle.std.specs.Prelude.{Vec}
use Rattle.sedck_cert.proofs.checking.are_names.Goals as goal

-- the listed name and the script's name at this place
both_at : (names : List (Bor (List ℕ))) (listed : List (Vec ℕ Global)) (k : ℕ) (v : Vec ℕ Global) (d : Bor (List ℕ)) (w : List ℕ) → k < length names
    → k < length listed → v ≡ get_or listed k v → w ≡ v.items
    → (get_or (names_of listed) k [] ≡ w) × (get_or (map (λ name. name.now) names) k [] ≡ (get_or names k d).now)
both_at names listed k v d w below within is value = (
  get_or-map (λ (name : Vec ℕ Global). name.items) listed k v [] within ∙ ap (λ (x : Vec ℕ Global). x.items) (sym is) ∙ sym value,
  get_or-map (λ (name : Bor (List ℕ)). name.now) names k d [] below,
)

pub returns-then-not-is_name : goal.returns-then-not-is_name
returns-then-not-is_name c =
    let below : c.loop-index.index < length c.args.names.now = omega arith in
    let within : c.loop-index.index < length c.args.listed.now = omega arith in
    let both = both_at c.args.names.now c.args.listed.now c.loop-index.index c.index-listed-index.result _ c.as_slice.result.now below within
    c.index-listed-index.is c.as_slice.ensures.value in
    (λ e. cc, λ same. c.if-not-is_name.ensures.1 (sym both.0 ∙ ap (λ l. get_or l c.loop-index.index []) same ∙ both.1))

pub loop-index-preserved : goal.loop-index-preserved
loop-index-preserved c =
    let below : c.loop-index.index < length c.args.names.now = omega arith in
    let within : c.loop-index.index < length c.args.listed.now = omega arith in
    let both = both_at c.args.names.now c.args.listed.now c.loop-index.index c.index-listed-index.result _ c.as_slice.result.now below within
    c.index-listed-index.is c.as_slice.ensures.value in
    below_more _ _ c.loop-index.invariant (both.0 ∙ c.is_name.ensures.0 c.if-not-is_name.false ∙ sym both.1)

pub returns : goal.returns
returns c = (
  λ _. ext_get_or [] _ _ (length-map c.args.listed.now _ ∙ sym c.if-names-listed.false ∙ sym (length-map c.args.names.now _))
      (λ k below. let h : k < c.loop-index.index = omega (arith, below, length-map c.args.listed.now (λ name. name.items)) in c.loop-index.invariant k h),
  λ _. refl,
)
