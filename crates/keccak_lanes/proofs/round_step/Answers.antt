use Rattle.std.proofs.Common.{◌≡◌, ℕ, ◌-◌, ◌^◌, [], ◌∷◌, ◌∙◌}
use Rattle.std.specs.Int.Bits.{bit_xor, bit_and}
use Rattle.standards.specs.Lists.{from, at, row_at}
use Rattle.standards.specs.Fips202.{rotl}
use Rattle.keccak_lanes.proofs.round_step.Goals as goal

spread : {x x' y y' : ℕ} → x ≡ x' → y ≡ y' → bit_xor x (rotl y 1) ≡ bit_xor x' (rotl y' 1)
spread p q = λ i. bit_xor (p i) (rotl (q i) 1)

moved : (n x : ℕ) {y y' : ℕ} → y ≡ y' → rotl (bit_xor x y) n ≡ rotl (bit_xor x y') n
moved n x p = λ i. rotl (bit_xor x (p i)) n

chosen : {x x' y y' z z' : ℕ} → x ≡ x' → y ≡ y' → z ≡ z' → bit_xor x (bit_and (2 ^ 64 - 1 - y) z) ≡ bit_xor x' (bit_and (2 ^ 64 - 1 - y') z')
chosen p q r = λ i. bit_xor (p i) (bit_and (2 ^ 64 - 1 - q i) (r i))

-- each lane by what it is made of, in the order of the code
pub returns : goal.returns
unfolding from
returns c l h =
    let a : ℕ → ℕ = λ i. at (row_at c.args.a.now i) l in
    let d0 = c.spread-d0.ensures l h ∙ spread (c.parity-c4.ensures l h) (c.parity-c1.ensures l h) in
    let d1 = c.spread-d1.ensures l h ∙ spread (c.parity-c0.ensures l h) (c.parity-c2.ensures l h) in
    let d2 = c.spread-d2.ensures l h ∙ spread (c.parity-c1.ensures l h) (c.parity-c3.ensures l h) in
    let d3 = c.spread-d3.ensures l h ∙ spread (c.parity-c2.ensures l h) (c.parity-c4.ensures l h) in
    let d4 = c.spread-d4.ensures l h ∙ spread (c.parity-c3.ensures l h) (c.parity-c0.ensures l h) in
    let b0 = c.still-b0.ensures l h ∙ moved 0 (a 0) d0 in
    let b1 = c.moved-b1.ensures l h ∙ moved 44 (a 6) d1 in
    let b2 = c.moved-b2.ensures l h ∙ moved 43 (a 12) d2 in
    let b3 = c.moved-b3.ensures l h ∙ moved 21 (a 18) d3 in
    let b4 = c.moved-b4.ensures l h ∙ moved 14 (a 24) d4 in
    let b5 = c.moved-b5.ensures l h ∙ moved 28 (a 3) d3 in
    let b6 = c.moved-b6.ensures l h ∙ moved 20 (a 9) d4 in
    let b7 = c.moved-b7.ensures l h ∙ moved 3 (a 10) d0 in
    let b8 = c.moved-b8.ensures l h ∙ moved 45 (a 16) d1 in
    let b9 = c.moved-b9.ensures l h ∙ moved 61 (a 22) d2 in
    let b10 = c.moved-b10.ensures l h ∙ moved 1 (a 1) d1 in
    let b11 = c.moved-b11.ensures l h ∙ moved 6 (a 7) d2 in
    let b12 = c.moved-b12.ensures l h ∙ moved 25 (a 13) d3 in
    let b13 = c.moved-b13.ensures l h ∙ moved 8 (a 19) d4 in
    let b14 = c.moved-b14.ensures l h ∙ moved 18 (a 20) d0 in
    let b15 = c.moved-b15.ensures l h ∙ moved 27 (a 4) d4 in
    let b16 = c.moved-b16.ensures l h ∙ moved 36 (a 5) d0 in
    let b17 = c.moved-b17.ensures l h ∙ moved 10 (a 11) d1 in
    let b18 = c.moved-b18.ensures l h ∙ moved 15 (a 17) d2 in
    let b19 = c.moved-b19.ensures l h ∙ moved 56 (a 23) d3 in
    let b20 = c.moved-b20.ensures l h ∙ moved 62 (a 2) d2 in
    let b21 = c.moved-b21.ensures l h ∙ moved 55 (a 8) d3 in
    let b22 = c.moved-b22.ensures l h ∙ moved 39 (a 14) d4 in
    let b23 = c.moved-b23.ensures l h ∙ moved 41 (a 15) d0 in
    let b24 = c.moved-b24.ensures l h ∙ moved 2 (a 21) d1 in
    let e0 = c.chosen-e0.ensures l h ∙ chosen b0 b1 b2 in
    let e1 = c.chosen-e1.ensures l h ∙ chosen b1 b2 b3 in
    let e2 = c.chosen-e2.ensures l h ∙ chosen b2 b3 b4 in
    let e3 = c.chosen-e3.ensures l h ∙ chosen b3 b4 b0 in
    let e4 = c.chosen-e4.ensures l h ∙ chosen b4 b0 b1 in
    let e5 = c.chosen-e5.ensures l h ∙ chosen b5 b6 b7 in
    let e6 = c.chosen-e6.ensures l h ∙ chosen b6 b7 b8 in
    let e7 = c.chosen-e7.ensures l h ∙ chosen b7 b8 b9 in
    let e8 = c.chosen-e8.ensures l h ∙ chosen b8 b9 b5 in
    let e9 = c.chosen-e9.ensures l h ∙ chosen b9 b5 b6 in
    let e10 = c.chosen-e10.ensures l h ∙ chosen b10 b11 b12 in
    let e11 = c.chosen-e11.ensures l h ∙ chosen b11 b12 b13 in
    let e12 = c.chosen-e12.ensures l h ∙ chosen b12 b13 b14 in
    let e13 = c.chosen-e13.ensures l h ∙ chosen b13 b14 b10 in
    let e14 = c.chosen-e14.ensures l h ∙ chosen b14 b10 b11 in
    let e15 = c.chosen-e15.ensures l h ∙ chosen b15 b16 b17 in
    let e16 = c.chosen-e16.ensures l h ∙ chosen b16 b17 b18 in
    let e17 = c.chosen-e17.ensures l h ∙ chosen b17 b18 b19 in
    let e18 = c.chosen-e18.ensures l h ∙ chosen b18 b19 b15 in
    let e19 = c.chosen-e19.ensures l h ∙ chosen b19 b15 b16 in
    let e20 = c.chosen-e20.ensures l h ∙ chosen b20 b21 b22 in
    let e21 = c.chosen-e21.ensures l h ∙ chosen b21 b22 b23 in
    let e22 = c.chosen-e22.ensures l h ∙ chosen b22 b23 b24 in
    let e23 = c.chosen-e23.ensures l h ∙ chosen b23 b24 b20 in
    let e24 = c.chosen-e24.ensures l h ∙ chosen b24 b20 b21 in
    let e = c.marked.ensures l h ∙ (λ i. bit_xor (e0 i) c.args.constant) in
    λ i. e i ∷ e1 i ∷ e2 i ∷ e3 i ∷ e4 i ∷ e5 i ∷ e6 i ∷ e7 i ∷ e8 i ∷ e9 i ∷ e10 i ∷ e11 i ∷ e12 i ∷ e13 i ∷ e14 i ∷ e15 i ∷ e16 i ∷ e17 i ∷ e18 i ∷ e19 i ∷ e20 i ∷ e21 i ∷ e22 i ∷ e23 i ∷ e24 i ∷ []
