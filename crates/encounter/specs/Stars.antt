-- Document 01, 'Encounters on each edge': the cases marked ★, one table, as request #109 changes them; and beside them an encounter at the limits of tests 11 and 22, the adds of 0 of request
-- #110, the exact letters of one encounter with unequal sigmas and two misses, which no ★ encounter has, with some of its rounded numbers and its ends at N = 3; and the counts of
-- request #105. `All stars` is one statement (claim `star_cases`).
use Rattle.std.specs.Prelude.{◌≡◌, true, false, List, [], ◌∷◌, ℕ, ◌+◌, ◌^◌, pos, negsuc}
use Rattle.exact.specs.declared.Encounter.{Encounter}
use Rattle.exact.specs.declared.Scaled.{Scaled}
use Rattle.exact.specs.Fraction.{Frac, ◌≈◌, ◌over◌, ◌⊗◌, whole}
use Rattle.exact.specs.Scaled.{scaled, nought, value, D, U}
use Rattle.exact.specs.Series.{u, b, zx, zy, g, h, X, Y, t, F, c, series, exponential}
use Rattle.exact.specs.Steps.{side_letters, side_start, side_terms, M, d, tail_bound, lower_end, upper_end}
use Rattle.encounter.specs.declared.state.Answer.{Answer}
use Rattle.encounter.specs.Session.{empty, state, no_object}
use Rattle.encounter.specs.Calls.{begins, adds, reads, call}

-- a case: what is computed, and what the paper says that it is
pub data Star : Type 0 where
  scaled_is : Scaled → Scaled → Star
  fraction_is : Frac → Frac → Star
  number_is : ℕ → ℕ → Star
  answer_is : Answer → Answer → Star

abbrev pub Holds : Star → Type 0
Holds (scaled_is x y) = x ≡ y
Holds (fraction_is p q) = p ≈ q
Holds (number_is m n) = m ≡ n
Holds (answer_is a b) = a ≡ b

abbrev pub All : List Star → Type 0
All [] = Unit {0}
All (s ∷ l) = Holds s × All l

-- (10, 10, 10, 0, 0), (8, 1, 1, 8, 0), (8, 1, 1, 8, 1), (8, 1, 1, −8, 0), (6, 10, 5, 7, −4), (131071, 131072, 131071, 0, 0) and (18, 4, 3, 36, 9)
abbrev pub E₁ : Encounter
E₁ = record { R = 10; sx = 10; sy = 10; xm = pos 0; ym = pos 0 }

abbrev pub E₂ : Encounter
E₂ = record { R = 8; sx = 1; sy = 1; xm = pos 8; ym = pos 0 }

abbrev pub E₃ : Encounter
E₃ = record { R = 8; sx = 1; sy = 1; xm = pos 8; ym = pos 1 }

abbrev pub E₄ : Encounter
E₄ = record { R = 8; sx = 1; sy = 1; xm = negsuc 7; ym = pos 0 }

abbrev pub E₅ : Encounter
E₅ = record { R = 6; sx = 10; sy = 5; xm = pos 7; ym = negsuc 3 }

abbrev pub E₆ : Encounter
E₆ = record { R = 131071; sx = 131072; sy = 131071; xm = pos 0; ym = pos 0 }

abbrev pub E₇ : Encounter
E₇ = record { R = 18; sx = 4; sy = 3; xm = pos 36; ym = pos 9 }

-- 1/2 and 1/8
abbrev pub a_half : Scaled
a_half = scaled (2 ^ 31) (negsuc 31)

abbrev pub an_eighth : Scaled
an_eighth = scaled (2 ^ 31) (negsuc 33)

unfoldable pub stars : List Star
stars =
    -- ★ D(1/3) = 2,863,311,530 × 2^-33; U has 2,863,311,531.
    scaled_is (D (1 over 3)) (scaled 2863311530 (negsuc 32))
    ∷ scaled_is (U (1 over 3)) (scaled 2863311531 (negsuc 32))
    -- ★ D(1/48) = 2,863,311,530 × 2^-37; U has 2,863,311,531.
    ∷ scaled_is (D (1 over 48)) (scaled 2863311530 (negsuc 36))
    ∷ scaled_is (U (1 over 48)) (scaled 2863311531 (negsuc 36))
    -- ★ D(1 + 2^-40) is 1; U is (2^31 + 1) × 2^-31.
    ∷ scaled_is (D ((2 ^ 40 + 1) over (2 ^ 40))) (scaled (2 ^ 31) (negsuc 30))
    ∷ scaled_is (U ((2 ^ 40 + 1) over (2 ^ 40))) (scaled (2 ^ 31 + 1) (negsuc 30))
    -- ★ D(0) = U(0) = 0.
    ∷ scaled_is (D (whole 0)) nought
    ∷ scaled_is (U (whole 0)) nought
    -- ★ (10, 10, 10, 0, 0): u = c(0) = M = 1/2, h = 0, c(1) = 1/8, exact c(2) = 1/48.
    ∷ fraction_is (u E₁) (1 over 2)
    ∷ fraction_is (c E₁ 0) (1 over 2)
    ∷ fraction_is (h E₁) (whole 0)
    ∷ fraction_is (c E₁ 1) (1 over 8)
    ∷ fraction_is (c E₁ 2) (1 over 48)
    ∷ scaled_is (side_letters false E₁).u a_half
    ∷ scaled_is (side_letters true E₁).u a_half
    ∷ scaled_is (side_start false E₁) a_half
    ∷ scaled_is (side_start true E₁) a_half
    ∷ scaled_is (side_letters false E₁).h nought
    ∷ scaled_is (side_letters true E₁).h nought
    ∷ scaled_is (side_terms false E₁ 1).c an_eighth
    ∷ scaled_is (side_terms true E₁ 1).c an_eighth
    ∷ scaled_is (M E₁) a_half
    -- ★ Same, N = 1: tail bound 1/4; a read is accepted, as 1 ≤ 3.
    ∷ number_is (call (begins E₁) empty).answer.refusal 0
    ∷ fraction_is (tail_bound E₁ 1) (1 over 4)
    ∷ fraction_is (whole 2 ⊗ value (M E₁)) (whole 1)
    ∷ number_is (call reads (state (no_object E₁) 1)).answer.refusal 0
    -- request #105: "For (10, 10, 10, 0, 0) at N = 3 it is 2."; 1 at N = 1 and 2 at N = 2
    ∷ number_is (call reads (state (no_object E₁) 1)).answer.exact 1
    ∷ number_is (call reads (state (no_object E₁) 2)).answer.exact 2
    ∷ number_is (call reads (state (no_object E₁) 3)).answer.exact 2
    -- request #105, (131071, 131072, 131071, 0, 0) at N = 1, "also one that a zero factor hides": b is rounded and zx is 0. Of what c(1) is formed of only X is lost
    ∷ scaled_is (side_letters false E₆).X nought
    ∷ scaled_is (side_letters true E₆).X nought
    ∷ number_is (state (no_object E₆) 1).lossless 0
    -- ★ (8, 1, 1, 8, 0): t = 64; M = 1,056; by request #109 no longer accepted: 11.
    ∷ fraction_is (t E₂) (whole 64)
    ∷ fraction_is (value (side_letters false E₂).t) (whole 64)
    ∷ fraction_is (value (side_letters true E₂).t) (whole 64)
    ∷ number_is (call (begins E₂) empty).answer.refusal 11
    ∷ fraction_is (value (M E₂)) (whole 1056)
    -- request #109, (18, 4, 3, 36, 9): 2M = 1,026 is not above 1,026, so accepted; N = 1,023 gives 23, N = 1,024 is read
    ∷ fraction_is (value (M E₇)) (whole 513)
    ∷ number_is (call (begins E₇) empty).answer.refusal 0
    ∷ number_is (call reads (state (no_object E₇) 1023)).answer.refusal 23
    ∷ number_is (call reads (state (no_object E₇) 1024)).answer.refusal 0
    -- request #109: N = 1 and add 1,023 is accepted, for 4,095 of document 01, which marks it with no ★; 1,024 gives 22
    ∷ number_is (call (adds 1023) (state (no_object E₇) 1)).answer.refusal 0
    ∷ number_is (call (adds 1024) (state (no_object E₇) 1)).answer.refusal 22
    -- request #110: add 0 gives 12, and so it does with no encounter begun
    ∷ number_is (call (adds 0) (state (no_object E₇) 1)).answer.refusal 12
    ∷ number_is (call (adds 0) empty).answer.refusal 12
    -- ★ (8, 1, 1, 8, 1): 7.
    ∷ number_is (call (begins E₃) empty).answer.refusal 7
    -- ★ xm = −8 in place of 8: the same answers.
    ∷ answer_is (call (begins E₄) empty).answer (call (begins E₂) empty).answer
    -- (6, 10, 5, 7, −4): no ★ case of the paper; its letters by hand, its rounded numbers by the reference in Python
    ∷ fraction_is (u E₅) (18 over 25)
    ∷ fraction_is (b E₅) (9 over 50)
    ∷ fraction_is (zx E₅) (49 over 200)
    ∷ fraction_is (zy E₅) (8 over 25)
    ∷ fraction_is (g E₅) (3 over 4)
    ∷ fraction_is (h E₅) (27 over 50)
    ∷ fraction_is (X E₅) (441 over 10000)
    ∷ fraction_is (Y E₅) (144 over 625)
    ∷ fraction_is (t E₅) (257 over 200)
    ∷ fraction_is (F E₅ 0) (2529 over 2000)
    ∷ fraction_is (F E₅ 1) (177957 over 250000)
    ∷ fraction_is (c E₅ 0) (9 over 25)
    ∷ fraction_is (c E₅ 1) (22761 over 100000)
    ∷ fraction_is (c E₅ 2) (27729459 over 400000000)
    ∷ fraction_is (series E₅ 3) (262773459 over 400000000)
    ∷ fraction_is (exponential E₅ 3) (248849 over 80000)
    ∷ scaled_is (M E₅) (scaled 2715493075 (negsuc 30))
    ∷ scaled_is (d E₅ 3) (scaled 4168286877 (negsuc 36))
    ∷ scaled_is (side_terms false E₅ 2).c (scaled 2381942388 (negsuc 34))
    ∷ scaled_is (side_terms true E₅ 2).c (scaled 2381942396 (negsuc 34))
    ∷ scaled_is (lower_end E₅ 3) (scaled 3122287721 (negsuc 33))
    ∷ scaled_is (upper_end E₅ 3) (scaled 3410577687 (negsuc 33))
    ∷ []
