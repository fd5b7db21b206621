use Rattle.std.proofs.Common.{◌≡◌, ℕ, ◌+◌, ◌*◌, ◌^◌, ◌<◌, ◌≤◌, List, ◌++◌, map, length, take, drop, set, sym, ap, ◌∙◌, subst, arith}
use Rattle.std.proofs.lemmas.List.{map-set, length-map}
use Rattle.standards.specs.Lists.{at}
use Rattle.algebra.proofs.Tables.{at_below}
use Rattle.algebra.proofs.Parts.{Written, written_none, written_next, written_all}
use Rattle.packing.proofs.coefficients.set_eight.Goals as goal

-- one word more
more : {A : Type 0} (v : A → ℕ) (old new : List ℕ) (a i : ℕ) (F : List A) (x : A) → v x ≡ at new i → i < length new → a + length new ≤ length old → Written old new a i (map v F) →
    Written old new a (i + 1) (map v (set F (a + i) x))
more v old new a i F x e h room w = subst (Written old new a (i + 1)) (ap (set (map v F) (a + i)) (sym e) ∙ sym (map-set v F (a + i) x)) (written_next h room w)

pub loop-i-init : goal.loop-i-init
loop-i-init g c = written_none

pub narrow-requires : goal.narrow-requires
narrow-requires g c = at_below (2 ^ g.W.Word.bits) c.args.x.now c.loop-i.i c.requires.1 (omega arith)

pub loop-i-preserved : goal.loop-i-preserved
loop-i-preserved g c =
    more g.W.Word.value _ c.args.x.now (8 * c.args.g) c.loop-i.i c.loop-i.f _ c.narrow.ensures (omega arith) (omega (arith, length-map c.args.f.now g.W.Word.value)) c.loop-i.invariant

pub returns : goal.returns
returns g c =
    let v = g.W.Word.value in
    let are = g.met.W.Word.numbers_are in
    let x = c.args.x.now in
    let a = 8 * c.args.g in
    record {
      after = are c.loop-i.f ∙
          (written_all (omega arith) c.loop-i.invariant ∙
          (ap (λ k. take a (map v c.args.f.now) ++ (x ++ drop (a + k) (map v c.args.f.now))) {x = c.loop-i.i} {y = 8} (omega arith) ∙
          ap (λ old. take a old ++ (x ++ drop (a + 8) old)) (sym (are c.args.f.now))));
      all = ap length (are c.loop-i.f) ∙ (c.loop-i.invariant.long ∙ (length-map c.args.f.now v ∙ c.told-f));
    }
