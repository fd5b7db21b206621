use Rattle.std.proofs.Common.{◌≡◌, sym, refl, ap, ◌∙◌, rules, arith}
use Rattle.std.proofs.lemmas.List.{take_all}
use Rattle.standards.specs.Lists.{tables}
use Rattle.standards.specs.Ring.{zero_p}
use Rattle.standards.specs.MlDsa.{marked, hint_row}
use Rattle.sets.specs.Sets.{dsa_numbers}
use Rattle.mldsa_hints.proofs.PlacesIn.{part_is, part_long, part_none, part_some, rise_none, rise_stop, rise_next, rise_last, row_marked, tables_none, tables_next}
use Rattle.mldsa_hints.proofs.hint_bit_unpack.Goals as goal

pub loop-i-init : goal.loop-i-init
loop-i-init c = (omega arith, refl, rise_none _ _, sym (tables_none _))

pub returns-in_err-places-clause-good : goal.returns-in_err-places-clause-good
returns-in_err-places-clause-good c =
    let p = dsa_numbers c.args.p in
    let s = c.args.sig.now in
    let part = part_is p s _ _ c.c_length.ensures.value c.z_bits.ensures.value in
    let lookup = rw c.from-end.ensures at c.get.ensures.lookup in
    let none = part_none _ p.omega _ _ c.loop-i.begin _ _ c.get.result (part_long p s _ part c.requires.long) lookup c.in_err-places.ensures.ok_part (omega arith) (grind arith) in
    let bad = rise_stop p s _ part c.loop-i.i c.loop-i.begin (omega arith) c.loop-i.invariant.1 none in
    search (rules, bad)

pub returns-in_err-unpack_row-clause-good : goal.returns-in_err-unpack_row-clause-good
returns-in_err-unpack_row-clause-good c =
    let p = dsa_numbers c.args.p in
    let s = c.args.sig.now in
    let part = part_is p s _ _ c.c_length.ensures.value c.z_bits.ensures.value in
    let lookup = rw c.from-end.ensures at c.get.ensures.lookup in
    let is = part_some _ p.omega _ _ c.loop-i.begin _ _ c.get.result _ lookup c.in_ok-places.ensures.ok_part (omega arith) (grind arith) in
    let bad = rise_stop p s _ part c.loop-i.i c.loop-i.begin (omega arith) c.loop-i.invariant.1 (is.0 ∙ sym c.in_err-unpack_row.ensures.good) in
    search (rules, bad)

pub loop-i-preserved : goal.loop-i-preserved
loop-i-preserved c =
    let p = dsa_numbers c.args.p in
    let s = c.args.sig.now in
    let i = c.loop-i.i in
    let part = part_is p s _ _ c.c_length.ensures.value c.z_bits.ensures.value in
    let lookup = rw c.from-end.ensures at c.get.ensures.lookup in
    let is = part_some _ p.omega _ _ c.loop-i.begin _ _ c.get.result _ lookup c.in_ok-places.ensures.ok_part (omega arith) (grind arith) in
    let begins = c.loop-i.invariant.1 in
    let good = c.in_ok-unpack_row.ensures in
    let next = rise_next p s _ part i c.loop-i.begin begins (is.0 ∙ sym good.good) c.loop-i.invariant.2 in
    let row = good.row ∙ (ap (λ xs. marked xs zero_p) is.1 ∙ row_marked p s _ part i c.loop-i.begin begins) in
    (omega (arith, next.0), c.from-end.ensures ∙ next.1, next.2, tables_next (hint_row p s) c.loop-i.hs i c.unpack_row.new.row (omega arith) row c.loop-i.invariant.3)

pub returns-then-all_zero : goal.returns-then-all_zero
returns-then-all_zero c =
    let p = dsa_numbers c.args.p in
    let s = c.args.sig.now in
    let all : c.loop-i.i ≡ c.args.p.k = omega arith in
    record {
      good = c.if-all_zero.ensures ∙ rise_last p s _ (part_is (dsa_numbers c.args.p) s _ _ c.c_length.ensures.value c.z_bits.ensures.value) c.loop-i.i c.loop-i.begin all c.args.p.fits.k_some c.loop-i.invariant.1 c.loop-i.invariant.2;
      rows = sym (take_all c.loop-i.i c.loop-i.hs (omega arith)) ∙ (c.loop-i.invariant.3 ∙ ap (λ n. tables n (hint_row p s)) all);
    }

pub returns-else-all_zero-clause-good : goal.returns-else-all_zero-clause-good
returns-else-all_zero-clause-good c =
    let s = c.args.sig.now in
    c.if-all_zero.ensures ∙ rise_last (dsa_numbers c.args.p) s _ (part_is (dsa_numbers c.args.p) s _ _ c.c_length.ensures.value c.z_bits.ensures.value) c.loop-i.i c.loop-i.begin (omega arith) c.args.p.fits.k_some c.loop-i.invariant.1 c.loop-i.invariant.2
