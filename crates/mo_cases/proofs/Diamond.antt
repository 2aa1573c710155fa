-- The elements of a class at the top of a diamond of classes, by computation level by level (Modelica Language Specification 3.5, section 7.1).
--
--     model Top0  Real x  and for each k from 1 to 32: model Leftk  extends Top(k-1)  model Rightk  extends Top(k-1)  model Topk  extends Leftk  extends Rightk
--
-- The definition walks a base once for each way that leads to it, two to the power of 32 times Top0, so each class is walked here on its own,
-- whatever classes are having their bases found, and the next level takes what that gave.
use Rattle.std.proofs.Common.{◌≡◌, ℕ, zero, suc, ◌<◌, ◌+◌, ◌*◌, Bool, false, List, [], ◌∷◌, ◌++◌, map, None, Ok, codes, refl, ap, ◌∙◌, arith}
use Rattle.std.specs.Prelude.{◌||◌, nat_eq}
use Rattle.std.proofs.lemmas.List.Folds.{list_any-append}
use Rattle.mo_syntax.specs.Outcome.{Outcome, and_then}
use Rattle.mo_syntax.specs.declared.place.Place.{Place}
use Rattle.mo_scope.specs.Rows.{Table, no_flags}
use Rattle.mo_scope.specs.Frames.{Frame, Top, In, No_source, Member}
use Rattle.mo_scope.specs.Lookup.{Walked, contains, walked, through_base, members_in}
use Rattle.mo_scope.specs.Names.{elements_of}
use Rattle.mo_scope.proofs.Models.{byte, part, reference, row, component, component_with, extends_class}

-- a class without modifiers, looked up from the top
abbrev plain : ℕ → Frame
plain number = In number No_source Top None Top

pub diamond : Table
diamond =
    row 6 [] (codes "Top0") (component (reference (part (codes "Real") 9 ∷ [])) (codes "x") 14 ∷ []) ∷
    row 7 [] (codes "Left1") (extends_class (reference (part (codes "Top0") 100 ∷ [])) ∷ []) ∷
    row 8 [] (codes "Right1") (extends_class (reference (part (codes "Top0") 120 ∷ [])) ∷ []) ∷
    row 9 [] (codes "Top1") (extends_class (reference (part (codes "Left1") 140 ∷ [])) ∷ extends_class (reference (part (codes "Right1") 160 ∷ [])) ∷ []) ∷
    row 10 [] (codes "Left2") (extends_class (reference (part (codes "Top1") 200 ∷ [])) ∷ []) ∷
    row 11 [] (codes "Right2") (extends_class (reference (part (codes "Top1") 220 ∷ [])) ∷ []) ∷
    row 12 [] (codes "Top2") (extends_class (reference (part (codes "Left2") 240 ∷ [])) ∷ extends_class (reference (part (codes "Right2") 260 ∷ [])) ∷ []) ∷
    row 13 [] (codes "Left3") (extends_class (reference (part (codes "Top2") 300 ∷ [])) ∷ []) ∷
    row 14 [] (codes "Right3") (extends_class (reference (part (codes "Top2") 320 ∷ [])) ∷ []) ∷
    row 15 [] (codes "Top3") (extends_class (reference (part (codes "Left3") 340 ∷ [])) ∷ extends_class (reference (part (codes "Right3") 360 ∷ [])) ∷ []) ∷
    row 16 [] (codes "Left4") (extends_class (reference (part (codes "Top3") 400 ∷ [])) ∷ []) ∷
    row 17 [] (codes "Right4") (extends_class (reference (part (codes "Top3") 420 ∷ [])) ∷ []) ∷
    row 18 [] (codes "Top4") (extends_class (reference (part (codes "Left4") 440 ∷ [])) ∷ extends_class (reference (part (codes "Right4") 460 ∷ [])) ∷ []) ∷
    row 19 [] (codes "Left5") (extends_class (reference (part (codes "Top4") 500 ∷ [])) ∷ []) ∷
    row 20 [] (codes "Right5") (extends_class (reference (part (codes "Top4") 520 ∷ [])) ∷ []) ∷
    row 21 [] (codes "Top5") (extends_class (reference (part (codes "Left5") 540 ∷ [])) ∷ extends_class (reference (part (codes "Right5") 560 ∷ [])) ∷ []) ∷
    row 22 [] (codes "Left6") (extends_class (reference (part (codes "Top5") 600 ∷ [])) ∷ []) ∷
    row 23 [] (codes "Right6") (extends_class (reference (part (codes "Top5") 620 ∷ [])) ∷ []) ∷
    row 24 [] (codes "Top6") (extends_class (reference (part (codes "Left6") 640 ∷ [])) ∷ extends_class (reference (part (codes "Right6") 660 ∷ [])) ∷ []) ∷
    row 25 [] (codes "Left7") (extends_class (reference (part (codes "Top6") 700 ∷ [])) ∷ []) ∷
    row 26 [] (codes "Right7") (extends_class (reference (part (codes "Top6") 720 ∷ [])) ∷ []) ∷
    row 27 [] (codes "Top7") (extends_class (reference (part (codes "Left7") 740 ∷ [])) ∷ extends_class (reference (part (codes "Right7") 760 ∷ [])) ∷ []) ∷
    row 28 [] (codes "Left8") (extends_class (reference (part (codes "Top7") 800 ∷ [])) ∷ []) ∷
    row 29 [] (codes "Right8") (extends_class (reference (part (codes "Top7") 820 ∷ [])) ∷ []) ∷
    row 30 [] (codes "Top8") (extends_class (reference (part (codes "Left8") 840 ∷ [])) ∷ extends_class (reference (part (codes "Right8") 860 ∷ [])) ∷ []) ∷
    row 31 [] (codes "Left9") (extends_class (reference (part (codes "Top8") 900 ∷ [])) ∷ []) ∷
    row 32 [] (codes "Right9") (extends_class (reference (part (codes "Top8") 920 ∷ [])) ∷ []) ∷
    row 33 [] (codes "Top9") (extends_class (reference (part (codes "Left9") 940 ∷ [])) ∷ extends_class (reference (part (codes "Right9") 960 ∷ [])) ∷ []) ∷
    row 34 [] (codes "Left10") (extends_class (reference (part (codes "Top9") 1000 ∷ [])) ∷ []) ∷
    row 35 [] (codes "Right10") (extends_class (reference (part (codes "Top9") 1020 ∷ [])) ∷ []) ∷
    row 36 [] (codes "Top10") (extends_class (reference (part (codes "Left10") 1040 ∷ [])) ∷ extends_class (reference (part (codes "Right10") 1060 ∷ [])) ∷ []) ∷
    row 37 [] (codes "Left11") (extends_class (reference (part (codes "Top10") 1100 ∷ [])) ∷ []) ∷
    row 38 [] (codes "Right11") (extends_class (reference (part (codes "Top10") 1120 ∷ [])) ∷ []) ∷
    row 39 [] (codes "Top11") (extends_class (reference (part (codes "Left11") 1140 ∷ [])) ∷ extends_class (reference (part (codes "Right11") 1160 ∷ [])) ∷ []) ∷
    row 40 [] (codes "Left12") (extends_class (reference (part (codes "Top11") 1200 ∷ [])) ∷ []) ∷
    row 41 [] (codes "Right12") (extends_class (reference (part (codes "Top11") 1220 ∷ [])) ∷ []) ∷
    row 42 [] (codes "Top12") (extends_class (reference (part (codes "Left12") 1240 ∷ [])) ∷ extends_class (reference (part (codes "Right12") 1260 ∷ [])) ∷ []) ∷
    row 43 [] (codes "Left13") (extends_class (reference (part (codes "Top12") 1300 ∷ [])) ∷ []) ∷
    row 44 [] (codes "Right13") (extends_class (reference (part (codes "Top12") 1320 ∷ [])) ∷ []) ∷
    row 45 [] (codes "Top13") (extends_class (reference (part (codes "Left13") 1340 ∷ [])) ∷ extends_class (reference (part (codes "Right13") 1360 ∷ [])) ∷ []) ∷
    row 46 [] (codes "Left14") (extends_class (reference (part (codes "Top13") 1400 ∷ [])) ∷ []) ∷
    row 47 [] (codes "Right14") (extends_class (reference (part (codes "Top13") 1420 ∷ [])) ∷ []) ∷
    row 48 [] (codes "Top14") (extends_class (reference (part (codes "Left14") 1440 ∷ [])) ∷ extends_class (reference (part (codes "Right14") 1460 ∷ [])) ∷ []) ∷
    row 49 [] (codes "Left15") (extends_class (reference (part (codes "Top14") 1500 ∷ [])) ∷ []) ∷
    row 50 [] (codes "Right15") (extends_class (reference (part (codes "Top14") 1520 ∷ [])) ∷ []) ∷
    row 51 [] (codes "Top15") (extends_class (reference (part (codes "Left15") 1540 ∷ [])) ∷ extends_class (reference (part (codes "Right15") 1560 ∷ [])) ∷ []) ∷
    row 52 [] (codes "Left16") (extends_class (reference (part (codes "Top15") 1600 ∷ [])) ∷ []) ∷
    row 53 [] (codes "Right16") (extends_class (reference (part (codes "Top15") 1620 ∷ [])) ∷ []) ∷
    row 54 [] (codes "Top16") (extends_class (reference (part (codes "Left16") 1640 ∷ [])) ∷ extends_class (reference (part (codes "Right16") 1660 ∷ [])) ∷ []) ∷
    row 55 [] (codes "Left17") (extends_class (reference (part (codes "Top16") 1700 ∷ [])) ∷ []) ∷
    row 56 [] (codes "Right17") (extends_class (reference (part (codes "Top16") 1720 ∷ [])) ∷ []) ∷
    row 57 [] (codes "Top17") (extends_class (reference (part (codes "Left17") 1740 ∷ [])) ∷ extends_class (reference (part (codes "Right17") 1760 ∷ [])) ∷ []) ∷
    row 58 [] (codes "Left18") (extends_class (reference (part (codes "Top17") 1800 ∷ [])) ∷ []) ∷
    row 59 [] (codes "Right18") (extends_class (reference (part (codes "Top17") 1820 ∷ [])) ∷ []) ∷
    row 60 [] (codes "Top18") (extends_class (reference (part (codes "Left18") 1840 ∷ [])) ∷ extends_class (reference (part (codes "Right18") 1860 ∷ [])) ∷ []) ∷
    row 61 [] (codes "Left19") (extends_class (reference (part (codes "Top18") 1900 ∷ [])) ∷ []) ∷
    row 62 [] (codes "Right19") (extends_class (reference (part (codes "Top18") 1920 ∷ [])) ∷ []) ∷
    row 63 [] (codes "Top19") (extends_class (reference (part (codes "Left19") 1940 ∷ [])) ∷ extends_class (reference (part (codes "Right19") 1960 ∷ [])) ∷ []) ∷
    row 64 [] (codes "Left20") (extends_class (reference (part (codes "Top19") 2000 ∷ [])) ∷ []) ∷
    row 65 [] (codes "Right20") (extends_class (reference (part (codes "Top19") 2020 ∷ [])) ∷ []) ∷
    row 66 [] (codes "Top20") (extends_class (reference (part (codes "Left20") 2040 ∷ [])) ∷ extends_class (reference (part (codes "Right20") 2060 ∷ [])) ∷ []) ∷
    row 67 [] (codes "Left21") (extends_class (reference (part (codes "Top20") 2100 ∷ [])) ∷ []) ∷
    row 68 [] (codes "Right21") (extends_class (reference (part (codes "Top20") 2120 ∷ [])) ∷ []) ∷
    row 69 [] (codes "Top21") (extends_class (reference (part (codes "Left21") 2140 ∷ [])) ∷ extends_class (reference (part (codes "Right21") 2160 ∷ [])) ∷ []) ∷
    row 70 [] (codes "Left22") (extends_class (reference (part (codes "Top21") 2200 ∷ [])) ∷ []) ∷
    row 71 [] (codes "Right22") (extends_class (reference (part (codes "Top21") 2220 ∷ [])) ∷ []) ∷
    row 72 [] (codes "Top22") (extends_class (reference (part (codes "Left22") 2240 ∷ [])) ∷ extends_class (reference (part (codes "Right22") 2260 ∷ [])) ∷ []) ∷
    row 73 [] (codes "Left23") (extends_class (reference (part (codes "Top22") 2300 ∷ [])) ∷ []) ∷
    row 74 [] (codes "Right23") (extends_class (reference (part (codes "Top22") 2320 ∷ [])) ∷ []) ∷
    row 75 [] (codes "Top23") (extends_class (reference (part (codes "Left23") 2340 ∷ [])) ∷ extends_class (reference (part (codes "Right23") 2360 ∷ [])) ∷ []) ∷
    row 76 [] (codes "Left24") (extends_class (reference (part (codes "Top23") 2400 ∷ [])) ∷ []) ∷
    row 77 [] (codes "Right24") (extends_class (reference (part (codes "Top23") 2420 ∷ [])) ∷ []) ∷
    row 78 [] (codes "Top24") (extends_class (reference (part (codes "Left24") 2440 ∷ [])) ∷ extends_class (reference (part (codes "Right24") 2460 ∷ [])) ∷ []) ∷
    row 79 [] (codes "Left25") (extends_class (reference (part (codes "Top24") 2500 ∷ [])) ∷ []) ∷
    row 80 [] (codes "Right25") (extends_class (reference (part (codes "Top24") 2520 ∷ [])) ∷ []) ∷
    row 81 [] (codes "Top25") (extends_class (reference (part (codes "Left25") 2540 ∷ [])) ∷ extends_class (reference (part (codes "Right25") 2560 ∷ [])) ∷ []) ∷
    row 82 [] (codes "Left26") (extends_class (reference (part (codes "Top25") 2600 ∷ [])) ∷ []) ∷
    row 83 [] (codes "Right26") (extends_class (reference (part (codes "Top25") 2620 ∷ [])) ∷ []) ∷
    row 84 [] (codes "Top26") (extends_class (reference (part (codes "Left26") 2640 ∷ [])) ∷ extends_class (reference (part (codes "Right26") 2660 ∷ [])) ∷ []) ∷
    row 85 [] (codes "Left27") (extends_class (reference (part (codes "Top26") 2700 ∷ [])) ∷ []) ∷
    row 86 [] (codes "Right27") (extends_class (reference (part (codes "Top26") 2720 ∷ [])) ∷ []) ∷
    row 87 [] (codes "Top27") (extends_class (reference (part (codes "Left27") 2740 ∷ [])) ∷ extends_class (reference (part (codes "Right27") 2760 ∷ [])) ∷ []) ∷
    row 88 [] (codes "Left28") (extends_class (reference (part (codes "Top27") 2800 ∷ [])) ∷ []) ∷
    row 89 [] (codes "Right28") (extends_class (reference (part (codes "Top27") 2820 ∷ [])) ∷ []) ∷
    row 90 [] (codes "Top28") (extends_class (reference (part (codes "Left28") 2840 ∷ [])) ∷ extends_class (reference (part (codes "Right28") 2860 ∷ [])) ∷ []) ∷
    row 91 [] (codes "Left29") (extends_class (reference (part (codes "Top28") 2900 ∷ [])) ∷ []) ∷
    row 92 [] (codes "Right29") (extends_class (reference (part (codes "Top28") 2920 ∷ [])) ∷ []) ∷
    row 93 [] (codes "Top29") (extends_class (reference (part (codes "Left29") 2940 ∷ [])) ∷ extends_class (reference (part (codes "Right29") 2960 ∷ [])) ∷ []) ∷
    row 94 [] (codes "Left30") (extends_class (reference (part (codes "Top29") 3000 ∷ [])) ∷ []) ∷
    row 95 [] (codes "Right30") (extends_class (reference (part (codes "Top29") 3020 ∷ [])) ∷ []) ∷
    row 96 [] (codes "Top30") (extends_class (reference (part (codes "Left30") 3040 ∷ [])) ∷ extends_class (reference (part (codes "Right30") 3060 ∷ [])) ∷ []) ∷
    row 97 [] (codes "Left31") (extends_class (reference (part (codes "Top30") 3100 ∷ [])) ∷ []) ∷
    row 98 [] (codes "Right31") (extends_class (reference (part (codes "Top30") 3120 ∷ [])) ∷ []) ∷
    row 99 [] (codes "Top31") (extends_class (reference (part (codes "Left31") 3140 ∷ [])) ∷ extends_class (reference (part (codes "Right31") 3160 ∷ [])) ∷ []) ∷
    row 100 [] (codes "Left32") (extends_class (reference (part (codes "Top31") 3200 ∷ [])) ∷ []) ∷
    row 101 [] (codes "Right32") (extends_class (reference (part (codes "Top31") 3220 ∷ [])) ∷ []) ∷
    row 102 [] (codes "Top32") (extends_class (reference (part (codes "Left32") 3240 ∷ [])) ∷ extends_class (reference (part (codes "Right32") 3260 ∷ [])) ∷ []) ∷ []

-- ---- classes whose bases are not being found

-- none of the classes below this number
abbrev Free : ℕ → List ℕ → Type 0
Free limit busy = (n : ℕ) → n < limit → contains busy n ≡ false

-- they stay free where a class behind them is busy besides
free_more : (limit c : ℕ) (busy : List ℕ) → limit < c + 1 → Free (c + 1) busy → Free limit (busy ++ c ∷ [])
free_more limit c busy small free = λ n below.
    list_any-append (λ m. nat_eq m n) busy (c ∷ []) ∙ both (contains busy n) (nat_eq c n) (free n (omega (small, below, arith))) (other c n (omega (small, below, arith)))
  where
    both : (a b : Bool) → a ≡ false → b ≡ false → (a || (b || false)) ≡ false
    both a b p q = rw (p, q) refl

    other : (c n : ℕ) → n < c → nat_eq c n ≡ false
    other c n less = grind (arith, less)

-- ---- the elements of each class

-- of a class with one base, which has those
through_one : ℕ → Walked → Walked
through_one base w = record {
  members = map (through_base (plain base)) w.members;
  bases = (plain base ∷ []) ∷ map (λ frames. plain base ∷ frames) w.bases;
  sections = map (λ frames. plain base ∷ frames) w.sections ++ (plain base ∷ []) ∷ [];
  leaf = None;
}

-- with one more base, of which all that it inherits counts already
and_also : ℕ → Walked → Walked
and_also base w = record {
  members = w.members;
  bases = w.bases ++ (plain base ∷ []) ∷ [];
  sections = w.sections ++ (plain base ∷ []) ∷ [];
  leaf = None;
}

-- of Ck, with the number of k
at_top : ℕ → Walked
at_top zero = record {
  members = record {
    member = record {
      name = codes "x";
      home = plain 6;
      item = 0;
      hidden = false;
      declares = component_with no_flags None [] (reference (part (codes "Real") 9 ∷ [])) (codes "x") 14;
    };
    through = [];
  } ∷ [];
  bases = [];
  sections = [];
  leaf = None;
}
at_top (suc k) = and_also (3 * k + 8) (through_one (3 * k + 7) (through_one (3 * k + 6) (at_top k)))

-- The class has these elements, while none of the classes up to it is having its bases found.
abbrev Has : ℕ → ℕ → Walked → Type 0
Has n class w = (busy : List ℕ) (place : Place) → Free (class + 1) busy → walked diamond n busy place (plain class) ≡ Ok w

-- ---- level by level

top_0 : (n : ℕ) → Has (suc n) 6 (at_top 0)
unfolding walked diamond at_top
top_0 n busy place free = rw (free 6 (omega arith)) refl

left_1 : (n : ℕ) → Has n 6 (at_top 0) → Has (suc n) 7 (through_one 6 (at_top 0))
unfolding walked diamond at_top through_one and_also
left_1 n base busy place free = rw (free 7 (omega arith), base (busy ++ 7 ∷ []) (byte 100) (free_more 7 7 busy (omega arith) free)) refl

right_1 : (n : ℕ) → Has n 6 (at_top 0) → Has (suc n) 8 (through_one 6 (at_top 0))
unfolding walked diamond at_top through_one and_also
right_1 n base busy place free = rw (free 8 (omega arith), base (busy ++ 8 ∷ []) (byte 120) (free_more 7 8 busy (omega arith) free)) refl

top_1 : (n : ℕ) → Has n 7 (through_one 6 (at_top 0)) → Has n 8 (through_one 6 (at_top 0)) → Has (suc n) 9 (at_top 1)
unfolding walked diamond at_top through_one and_also
top_1 n left right busy place free = rw (free 9 (omega arith), left (busy ++ 9 ∷ []) (byte 140) (free_more 8 9 busy (omega arith) free), right (busy ++ 9 ∷ []) (byte 160) (free_more 9 9 busy (omega arith) free)) refl

left_2 : (n : ℕ) → Has n 9 (at_top 1) → Has (suc n) 10 (through_one 9 (at_top 1))
unfolding walked diamond at_top through_one and_also
left_2 n base busy place free = rw (free 10 (omega arith), base (busy ++ 10 ∷ []) (byte 200) (free_more 10 10 busy (omega arith) free)) refl

right_2 : (n : ℕ) → Has n 9 (at_top 1) → Has (suc n) 11 (through_one 9 (at_top 1))
unfolding walked diamond at_top through_one and_also
right_2 n base busy place free = rw (free 11 (omega arith), base (busy ++ 11 ∷ []) (byte 220) (free_more 10 11 busy (omega arith) free)) refl

top_2 : (n : ℕ) → Has n 10 (through_one 9 (at_top 1)) → Has n 11 (through_one 9 (at_top 1)) → Has (suc n) 12 (at_top 2)
unfolding walked diamond at_top through_one and_also
top_2 n left right busy place free = rw (free 12 (omega arith), left (busy ++ 12 ∷ []) (byte 240) (free_more 11 12 busy (omega arith) free), right (busy ++ 12 ∷ []) (byte 260) (free_more 12 12 busy (omega arith) free)) refl

left_3 : (n : ℕ) → Has n 12 (at_top 2) → Has (suc n) 13 (through_one 12 (at_top 2))
unfolding walked diamond at_top through_one and_also
left_3 n base busy place free = rw (free 13 (omega arith), base (busy ++ 13 ∷ []) (byte 300) (free_more 13 13 busy (omega arith) free)) refl

right_3 : (n : ℕ) → Has n 12 (at_top 2) → Has (suc n) 14 (through_one 12 (at_top 2))
unfolding walked diamond at_top through_one and_also
right_3 n base busy place free = rw (free 14 (omega arith), base (busy ++ 14 ∷ []) (byte 320) (free_more 13 14 busy (omega arith) free)) refl

top_3 : (n : ℕ) → Has n 13 (through_one 12 (at_top 2)) → Has n 14 (through_one 12 (at_top 2)) → Has (suc n) 15 (at_top 3)
unfolding walked diamond at_top through_one and_also
top_3 n left right busy place free = rw (free 15 (omega arith), left (busy ++ 15 ∷ []) (byte 340) (free_more 14 15 busy (omega arith) free), right (busy ++ 15 ∷ []) (byte 360) (free_more 15 15 busy (omega arith) free)) refl

left_4 : (n : ℕ) → Has n 15 (at_top 3) → Has (suc n) 16 (through_one 15 (at_top 3))
unfolding walked diamond at_top through_one and_also
left_4 n base busy place free = rw (free 16 (omega arith), base (busy ++ 16 ∷ []) (byte 400) (free_more 16 16 busy (omega arith) free)) refl

right_4 : (n : ℕ) → Has n 15 (at_top 3) → Has (suc n) 17 (through_one 15 (at_top 3))
unfolding walked diamond at_top through_one and_also
right_4 n base busy place free = rw (free 17 (omega arith), base (busy ++ 17 ∷ []) (byte 420) (free_more 16 17 busy (omega arith) free)) refl

top_4 : (n : ℕ) → Has n 16 (through_one 15 (at_top 3)) → Has n 17 (through_one 15 (at_top 3)) → Has (suc n) 18 (at_top 4)
unfolding walked diamond at_top through_one and_also
top_4 n left right busy place free = rw (free 18 (omega arith), left (busy ++ 18 ∷ []) (byte 440) (free_more 17 18 busy (omega arith) free), right (busy ++ 18 ∷ []) (byte 460) (free_more 18 18 busy (omega arith) free)) refl

left_5 : (n : ℕ) → Has n 18 (at_top 4) → Has (suc n) 19 (through_one 18 (at_top 4))
unfolding walked diamond at_top through_one and_also
left_5 n base busy place free = rw (free 19 (omega arith), base (busy ++ 19 ∷ []) (byte 500) (free_more 19 19 busy (omega arith) free)) refl

right_5 : (n : ℕ) → Has n 18 (at_top 4) → Has (suc n) 20 (through_one 18 (at_top 4))
unfolding walked diamond at_top through_one and_also
right_5 n base busy place free = rw (free 20 (omega arith), base (busy ++ 20 ∷ []) (byte 520) (free_more 19 20 busy (omega arith) free)) refl

top_5 : (n : ℕ) → Has n 19 (through_one 18 (at_top 4)) → Has n 20 (through_one 18 (at_top 4)) → Has (suc n) 21 (at_top 5)
unfolding walked diamond at_top through_one and_also
top_5 n left right busy place free = rw (free 21 (omega arith), left (busy ++ 21 ∷ []) (byte 540) (free_more 20 21 busy (omega arith) free), right (busy ++ 21 ∷ []) (byte 560) (free_more 21 21 busy (omega arith) free)) refl

left_6 : (n : ℕ) → Has n 21 (at_top 5) → Has (suc n) 22 (through_one 21 (at_top 5))
unfolding walked diamond at_top through_one and_also
left_6 n base busy place free = rw (free 22 (omega arith), base (busy ++ 22 ∷ []) (byte 600) (free_more 22 22 busy (omega arith) free)) refl

right_6 : (n : ℕ) → Has n 21 (at_top 5) → Has (suc n) 23 (through_one 21 (at_top 5))
unfolding walked diamond at_top through_one and_also
right_6 n base busy place free = rw (free 23 (omega arith), base (busy ++ 23 ∷ []) (byte 620) (free_more 22 23 busy (omega arith) free)) refl

top_6 : (n : ℕ) → Has n 22 (through_one 21 (at_top 5)) → Has n 23 (through_one 21 (at_top 5)) → Has (suc n) 24 (at_top 6)
unfolding walked diamond at_top through_one and_also
top_6 n left right busy place free = rw (free 24 (omega arith), left (busy ++ 24 ∷ []) (byte 640) (free_more 23 24 busy (omega arith) free), right (busy ++ 24 ∷ []) (byte 660) (free_more 24 24 busy (omega arith) free)) refl

left_7 : (n : ℕ) → Has n 24 (at_top 6) → Has (suc n) 25 (through_one 24 (at_top 6))
unfolding walked diamond at_top through_one and_also
left_7 n base busy place free = rw (free 25 (omega arith), base (busy ++ 25 ∷ []) (byte 700) (free_more 25 25 busy (omega arith) free)) refl

right_7 : (n : ℕ) → Has n 24 (at_top 6) → Has (suc n) 26 (through_one 24 (at_top 6))
unfolding walked diamond at_top through_one and_also
right_7 n base busy place free = rw (free 26 (omega arith), base (busy ++ 26 ∷ []) (byte 720) (free_more 25 26 busy (omega arith) free)) refl

top_7 : (n : ℕ) → Has n 25 (through_one 24 (at_top 6)) → Has n 26 (through_one 24 (at_top 6)) → Has (suc n) 27 (at_top 7)
unfolding walked diamond at_top through_one and_also
top_7 n left right busy place free = rw (free 27 (omega arith), left (busy ++ 27 ∷ []) (byte 740) (free_more 26 27 busy (omega arith) free), right (busy ++ 27 ∷ []) (byte 760) (free_more 27 27 busy (omega arith) free)) refl

left_8 : (n : ℕ) → Has n 27 (at_top 7) → Has (suc n) 28 (through_one 27 (at_top 7))
unfolding walked diamond at_top through_one and_also
left_8 n base busy place free = rw (free 28 (omega arith), base (busy ++ 28 ∷ []) (byte 800) (free_more 28 28 busy (omega arith) free)) refl

right_8 : (n : ℕ) → Has n 27 (at_top 7) → Has (suc n) 29 (through_one 27 (at_top 7))
unfolding walked diamond at_top through_one and_also
right_8 n base busy place free = rw (free 29 (omega arith), base (busy ++ 29 ∷ []) (byte 820) (free_more 28 29 busy (omega arith) free)) refl

top_8 : (n : ℕ) → Has n 28 (through_one 27 (at_top 7)) → Has n 29 (through_one 27 (at_top 7)) → Has (suc n) 30 (at_top 8)
unfolding walked diamond at_top through_one and_also
top_8 n left right busy place free = rw (free 30 (omega arith), left (busy ++ 30 ∷ []) (byte 840) (free_more 29 30 busy (omega arith) free), right (busy ++ 30 ∷ []) (byte 860) (free_more 30 30 busy (omega arith) free)) refl

left_9 : (n : ℕ) → Has n 30 (at_top 8) → Has (suc n) 31 (through_one 30 (at_top 8))
unfolding walked diamond at_top through_one and_also
left_9 n base busy place free = rw (free 31 (omega arith), base (busy ++ 31 ∷ []) (byte 900) (free_more 31 31 busy (omega arith) free)) refl

right_9 : (n : ℕ) → Has n 30 (at_top 8) → Has (suc n) 32 (through_one 30 (at_top 8))
unfolding walked diamond at_top through_one and_also
right_9 n base busy place free = rw (free 32 (omega arith), base (busy ++ 32 ∷ []) (byte 920) (free_more 31 32 busy (omega arith) free)) refl

top_9 : (n : ℕ) → Has n 31 (through_one 30 (at_top 8)) → Has n 32 (through_one 30 (at_top 8)) → Has (suc n) 33 (at_top 9)
unfolding walked diamond at_top through_one and_also
top_9 n left right busy place free = rw (free 33 (omega arith), left (busy ++ 33 ∷ []) (byte 940) (free_more 32 33 busy (omega arith) free), right (busy ++ 33 ∷ []) (byte 960) (free_more 33 33 busy (omega arith) free)) refl

left_10 : (n : ℕ) → Has n 33 (at_top 9) → Has (suc n) 34 (through_one 33 (at_top 9))
unfolding walked diamond at_top through_one and_also
left_10 n base busy place free = rw (free 34 (omega arith), base (busy ++ 34 ∷ []) (byte 1000) (free_more 34 34 busy (omega arith) free)) refl

right_10 : (n : ℕ) → Has n 33 (at_top 9) → Has (suc n) 35 (through_one 33 (at_top 9))
unfolding walked diamond at_top through_one and_also
right_10 n base busy place free = rw (free 35 (omega arith), base (busy ++ 35 ∷ []) (byte 1020) (free_more 34 35 busy (omega arith) free)) refl

top_10 : (n : ℕ) → Has n 34 (through_one 33 (at_top 9)) → Has n 35 (through_one 33 (at_top 9)) → Has (suc n) 36 (at_top 10)
unfolding walked diamond at_top through_one and_also
top_10 n left right busy place free = rw (free 36 (omega arith), left (busy ++ 36 ∷ []) (byte 1040) (free_more 35 36 busy (omega arith) free), right (busy ++ 36 ∷ []) (byte 1060) (free_more 36 36 busy (omega arith) free)) refl

left_11 : (n : ℕ) → Has n 36 (at_top 10) → Has (suc n) 37 (through_one 36 (at_top 10))
unfolding walked diamond at_top through_one and_also
left_11 n base busy place free = rw (free 37 (omega arith), base (busy ++ 37 ∷ []) (byte 1100) (free_more 37 37 busy (omega arith) free)) refl

right_11 : (n : ℕ) → Has n 36 (at_top 10) → Has (suc n) 38 (through_one 36 (at_top 10))
unfolding walked diamond at_top through_one and_also
right_11 n base busy place free = rw (free 38 (omega arith), base (busy ++ 38 ∷ []) (byte 1120) (free_more 37 38 busy (omega arith) free)) refl

top_11 : (n : ℕ) → Has n 37 (through_one 36 (at_top 10)) → Has n 38 (through_one 36 (at_top 10)) → Has (suc n) 39 (at_top 11)
unfolding walked diamond at_top through_one and_also
top_11 n left right busy place free = rw (free 39 (omega arith), left (busy ++ 39 ∷ []) (byte 1140) (free_more 38 39 busy (omega arith) free), right (busy ++ 39 ∷ []) (byte 1160) (free_more 39 39 busy (omega arith) free)) refl

left_12 : (n : ℕ) → Has n 39 (at_top 11) → Has (suc n) 40 (through_one 39 (at_top 11))
unfolding walked diamond at_top through_one and_also
left_12 n base busy place free = rw (free 40 (omega arith), base (busy ++ 40 ∷ []) (byte 1200) (free_more 40 40 busy (omega arith) free)) refl

right_12 : (n : ℕ) → Has n 39 (at_top 11) → Has (suc n) 41 (through_one 39 (at_top 11))
unfolding walked diamond at_top through_one and_also
right_12 n base busy place free = rw (free 41 (omega arith), base (busy ++ 41 ∷ []) (byte 1220) (free_more 40 41 busy (omega arith) free)) refl

top_12 : (n : ℕ) → Has n 40 (through_one 39 (at_top 11)) → Has n 41 (through_one 39 (at_top 11)) → Has (suc n) 42 (at_top 12)
unfolding walked diamond at_top through_one and_also
top_12 n left right busy place free = rw (free 42 (omega arith), left (busy ++ 42 ∷ []) (byte 1240) (free_more 41 42 busy (omega arith) free), right (busy ++ 42 ∷ []) (byte 1260) (free_more 42 42 busy (omega arith) free)) refl

left_13 : (n : ℕ) → Has n 42 (at_top 12) → Has (suc n) 43 (through_one 42 (at_top 12))
unfolding walked diamond at_top through_one and_also
left_13 n base busy place free = rw (free 43 (omega arith), base (busy ++ 43 ∷ []) (byte 1300) (free_more 43 43 busy (omega arith) free)) refl

right_13 : (n : ℕ) → Has n 42 (at_top 12) → Has (suc n) 44 (through_one 42 (at_top 12))
unfolding walked diamond at_top through_one and_also
right_13 n base busy place free = rw (free 44 (omega arith), base (busy ++ 44 ∷ []) (byte 1320) (free_more 43 44 busy (omega arith) free)) refl

top_13 : (n : ℕ) → Has n 43 (through_one 42 (at_top 12)) → Has n 44 (through_one 42 (at_top 12)) → Has (suc n) 45 (at_top 13)
unfolding walked diamond at_top through_one and_also
top_13 n left right busy place free = rw (free 45 (omega arith), left (busy ++ 45 ∷ []) (byte 1340) (free_more 44 45 busy (omega arith) free), right (busy ++ 45 ∷ []) (byte 1360) (free_more 45 45 busy (omega arith) free)) refl

left_14 : (n : ℕ) → Has n 45 (at_top 13) → Has (suc n) 46 (through_one 45 (at_top 13))
unfolding walked diamond at_top through_one and_also
left_14 n base busy place free = rw (free 46 (omega arith), base (busy ++ 46 ∷ []) (byte 1400) (free_more 46 46 busy (omega arith) free)) refl

right_14 : (n : ℕ) → Has n 45 (at_top 13) → Has (suc n) 47 (through_one 45 (at_top 13))
unfolding walked diamond at_top through_one and_also
right_14 n base busy place free = rw (free 47 (omega arith), base (busy ++ 47 ∷ []) (byte 1420) (free_more 46 47 busy (omega arith) free)) refl

top_14 : (n : ℕ) → Has n 46 (through_one 45 (at_top 13)) → Has n 47 (through_one 45 (at_top 13)) → Has (suc n) 48 (at_top 14)
unfolding walked diamond at_top through_one and_also
top_14 n left right busy place free = rw (free 48 (omega arith), left (busy ++ 48 ∷ []) (byte 1440) (free_more 47 48 busy (omega arith) free), right (busy ++ 48 ∷ []) (byte 1460) (free_more 48 48 busy (omega arith) free)) refl

left_15 : (n : ℕ) → Has n 48 (at_top 14) → Has (suc n) 49 (through_one 48 (at_top 14))
unfolding walked diamond at_top through_one and_also
left_15 n base busy place free = rw (free 49 (omega arith), base (busy ++ 49 ∷ []) (byte 1500) (free_more 49 49 busy (omega arith) free)) refl

right_15 : (n : ℕ) → Has n 48 (at_top 14) → Has (suc n) 50 (through_one 48 (at_top 14))
unfolding walked diamond at_top through_one and_also
right_15 n base busy place free = rw (free 50 (omega arith), base (busy ++ 50 ∷ []) (byte 1520) (free_more 49 50 busy (omega arith) free)) refl

top_15 : (n : ℕ) → Has n 49 (through_one 48 (at_top 14)) → Has n 50 (through_one 48 (at_top 14)) → Has (suc n) 51 (at_top 15)
unfolding walked diamond at_top through_one and_also
top_15 n left right busy place free = rw (free 51 (omega arith), left (busy ++ 51 ∷ []) (byte 1540) (free_more 50 51 busy (omega arith) free), right (busy ++ 51 ∷ []) (byte 1560) (free_more 51 51 busy (omega arith) free)) refl

left_16 : (n : ℕ) → Has n 51 (at_top 15) → Has (suc n) 52 (through_one 51 (at_top 15))
unfolding walked diamond at_top through_one and_also
left_16 n base busy place free = rw (free 52 (omega arith), base (busy ++ 52 ∷ []) (byte 1600) (free_more 52 52 busy (omega arith) free)) refl

right_16 : (n : ℕ) → Has n 51 (at_top 15) → Has (suc n) 53 (through_one 51 (at_top 15))
unfolding walked diamond at_top through_one and_also
right_16 n base busy place free = rw (free 53 (omega arith), base (busy ++ 53 ∷ []) (byte 1620) (free_more 52 53 busy (omega arith) free)) refl

top_16 : (n : ℕ) → Has n 52 (through_one 51 (at_top 15)) → Has n 53 (through_one 51 (at_top 15)) → Has (suc n) 54 (at_top 16)
unfolding walked diamond at_top through_one and_also
top_16 n left right busy place free = rw (free 54 (omega arith), left (busy ++ 54 ∷ []) (byte 1640) (free_more 53 54 busy (omega arith) free), right (busy ++ 54 ∷ []) (byte 1660) (free_more 54 54 busy (omega arith) free)) refl

left_17 : (n : ℕ) → Has n 54 (at_top 16) → Has (suc n) 55 (through_one 54 (at_top 16))
unfolding walked diamond at_top through_one and_also
left_17 n base busy place free = rw (free 55 (omega arith), base (busy ++ 55 ∷ []) (byte 1700) (free_more 55 55 busy (omega arith) free)) refl

right_17 : (n : ℕ) → Has n 54 (at_top 16) → Has (suc n) 56 (through_one 54 (at_top 16))
unfolding walked diamond at_top through_one and_also
right_17 n base busy place free = rw (free 56 (omega arith), base (busy ++ 56 ∷ []) (byte 1720) (free_more 55 56 busy (omega arith) free)) refl

top_17 : (n : ℕ) → Has n 55 (through_one 54 (at_top 16)) → Has n 56 (through_one 54 (at_top 16)) → Has (suc n) 57 (at_top 17)
unfolding walked diamond at_top through_one and_also
top_17 n left right busy place free = rw (free 57 (omega arith), left (busy ++ 57 ∷ []) (byte 1740) (free_more 56 57 busy (omega arith) free), right (busy ++ 57 ∷ []) (byte 1760) (free_more 57 57 busy (omega arith) free)) refl

left_18 : (n : ℕ) → Has n 57 (at_top 17) → Has (suc n) 58 (through_one 57 (at_top 17))
unfolding walked diamond at_top through_one and_also
left_18 n base busy place free = rw (free 58 (omega arith), base (busy ++ 58 ∷ []) (byte 1800) (free_more 58 58 busy (omega arith) free)) refl

right_18 : (n : ℕ) → Has n 57 (at_top 17) → Has (suc n) 59 (through_one 57 (at_top 17))
unfolding walked diamond at_top through_one and_also
right_18 n base busy place free = rw (free 59 (omega arith), base (busy ++ 59 ∷ []) (byte 1820) (free_more 58 59 busy (omega arith) free)) refl

top_18 : (n : ℕ) → Has n 58 (through_one 57 (at_top 17)) → Has n 59 (through_one 57 (at_top 17)) → Has (suc n) 60 (at_top 18)
unfolding walked diamond at_top through_one and_also
top_18 n left right busy place free = rw (free 60 (omega arith), left (busy ++ 60 ∷ []) (byte 1840) (free_more 59 60 busy (omega arith) free), right (busy ++ 60 ∷ []) (byte 1860) (free_more 60 60 busy (omega arith) free)) refl

left_19 : (n : ℕ) → Has n 60 (at_top 18) → Has (suc n) 61 (through_one 60 (at_top 18))
unfolding walked diamond at_top through_one and_also
left_19 n base busy place free = rw (free 61 (omega arith), base (busy ++ 61 ∷ []) (byte 1900) (free_more 61 61 busy (omega arith) free)) refl

right_19 : (n : ℕ) → Has n 60 (at_top 18) → Has (suc n) 62 (through_one 60 (at_top 18))
unfolding walked diamond at_top through_one and_also
right_19 n base busy place free = rw (free 62 (omega arith), base (busy ++ 62 ∷ []) (byte 1920) (free_more 61 62 busy (omega arith) free)) refl

top_19 : (n : ℕ) → Has n 61 (through_one 60 (at_top 18)) → Has n 62 (through_one 60 (at_top 18)) → Has (suc n) 63 (at_top 19)
unfolding walked diamond at_top through_one and_also
top_19 n left right busy place free = rw (free 63 (omega arith), left (busy ++ 63 ∷ []) (byte 1940) (free_more 62 63 busy (omega arith) free), right (busy ++ 63 ∷ []) (byte 1960) (free_more 63 63 busy (omega arith) free)) refl

left_20 : (n : ℕ) → Has n 63 (at_top 19) → Has (suc n) 64 (through_one 63 (at_top 19))
unfolding walked diamond at_top through_one and_also
left_20 n base busy place free = rw (free 64 (omega arith), base (busy ++ 64 ∷ []) (byte 2000) (free_more 64 64 busy (omega arith) free)) refl

right_20 : (n : ℕ) → Has n 63 (at_top 19) → Has (suc n) 65 (through_one 63 (at_top 19))
unfolding walked diamond at_top through_one and_also
right_20 n base busy place free = rw (free 65 (omega arith), base (busy ++ 65 ∷ []) (byte 2020) (free_more 64 65 busy (omega arith) free)) refl

top_20 : (n : ℕ) → Has n 64 (through_one 63 (at_top 19)) → Has n 65 (through_one 63 (at_top 19)) → Has (suc n) 66 (at_top 20)
unfolding walked diamond at_top through_one and_also
top_20 n left right busy place free = rw (free 66 (omega arith), left (busy ++ 66 ∷ []) (byte 2040) (free_more 65 66 busy (omega arith) free), right (busy ++ 66 ∷ []) (byte 2060) (free_more 66 66 busy (omega arith) free)) refl

left_21 : (n : ℕ) → Has n 66 (at_top 20) → Has (suc n) 67 (through_one 66 (at_top 20))
unfolding walked diamond at_top through_one and_also
left_21 n base busy place free = rw (free 67 (omega arith), base (busy ++ 67 ∷ []) (byte 2100) (free_more 67 67 busy (omega arith) free)) refl

right_21 : (n : ℕ) → Has n 66 (at_top 20) → Has (suc n) 68 (through_one 66 (at_top 20))
unfolding walked diamond at_top through_one and_also
right_21 n base busy place free = rw (free 68 (omega arith), base (busy ++ 68 ∷ []) (byte 2120) (free_more 67 68 busy (omega arith) free)) refl

top_21 : (n : ℕ) → Has n 67 (through_one 66 (at_top 20)) → Has n 68 (through_one 66 (at_top 20)) → Has (suc n) 69 (at_top 21)
unfolding walked diamond at_top through_one and_also
top_21 n left right busy place free = rw (free 69 (omega arith), left (busy ++ 69 ∷ []) (byte 2140) (free_more 68 69 busy (omega arith) free), right (busy ++ 69 ∷ []) (byte 2160) (free_more 69 69 busy (omega arith) free)) refl

left_22 : (n : ℕ) → Has n 69 (at_top 21) → Has (suc n) 70 (through_one 69 (at_top 21))
unfolding walked diamond at_top through_one and_also
left_22 n base busy place free = rw (free 70 (omega arith), base (busy ++ 70 ∷ []) (byte 2200) (free_more 70 70 busy (omega arith) free)) refl

right_22 : (n : ℕ) → Has n 69 (at_top 21) → Has (suc n) 71 (through_one 69 (at_top 21))
unfolding walked diamond at_top through_one and_also
right_22 n base busy place free = rw (free 71 (omega arith), base (busy ++ 71 ∷ []) (byte 2220) (free_more 70 71 busy (omega arith) free)) refl

top_22 : (n : ℕ) → Has n 70 (through_one 69 (at_top 21)) → Has n 71 (through_one 69 (at_top 21)) → Has (suc n) 72 (at_top 22)
unfolding walked diamond at_top through_one and_also
top_22 n left right busy place free = rw (free 72 (omega arith), left (busy ++ 72 ∷ []) (byte 2240) (free_more 71 72 busy (omega arith) free), right (busy ++ 72 ∷ []) (byte 2260) (free_more 72 72 busy (omega arith) free)) refl

left_23 : (n : ℕ) → Has n 72 (at_top 22) → Has (suc n) 73 (through_one 72 (at_top 22))
unfolding walked diamond at_top through_one and_also
left_23 n base busy place free = rw (free 73 (omega arith), base (busy ++ 73 ∷ []) (byte 2300) (free_more 73 73 busy (omega arith) free)) refl

right_23 : (n : ℕ) → Has n 72 (at_top 22) → Has (suc n) 74 (through_one 72 (at_top 22))
unfolding walked diamond at_top through_one and_also
right_23 n base busy place free = rw (free 74 (omega arith), base (busy ++ 74 ∷ []) (byte 2320) (free_more 73 74 busy (omega arith) free)) refl

top_23 : (n : ℕ) → Has n 73 (through_one 72 (at_top 22)) → Has n 74 (through_one 72 (at_top 22)) → Has (suc n) 75 (at_top 23)
unfolding walked diamond at_top through_one and_also
top_23 n left right busy place free = rw (free 75 (omega arith), left (busy ++ 75 ∷ []) (byte 2340) (free_more 74 75 busy (omega arith) free), right (busy ++ 75 ∷ []) (byte 2360) (free_more 75 75 busy (omega arith) free)) refl

left_24 : (n : ℕ) → Has n 75 (at_top 23) → Has (suc n) 76 (through_one 75 (at_top 23))
unfolding walked diamond at_top through_one and_also
left_24 n base busy place free = rw (free 76 (omega arith), base (busy ++ 76 ∷ []) (byte 2400) (free_more 76 76 busy (omega arith) free)) refl

right_24 : (n : ℕ) → Has n 75 (at_top 23) → Has (suc n) 77 (through_one 75 (at_top 23))
unfolding walked diamond at_top through_one and_also
right_24 n base busy place free = rw (free 77 (omega arith), base (busy ++ 77 ∷ []) (byte 2420) (free_more 76 77 busy (omega arith) free)) refl

top_24 : (n : ℕ) → Has n 76 (through_one 75 (at_top 23)) → Has n 77 (through_one 75 (at_top 23)) → Has (suc n) 78 (at_top 24)
unfolding walked diamond at_top through_one and_also
top_24 n left right busy place free = rw (free 78 (omega arith), left (busy ++ 78 ∷ []) (byte 2440) (free_more 77 78 busy (omega arith) free), right (busy ++ 78 ∷ []) (byte 2460) (free_more 78 78 busy (omega arith) free)) refl

left_25 : (n : ℕ) → Has n 78 (at_top 24) → Has (suc n) 79 (through_one 78 (at_top 24))
unfolding walked diamond at_top through_one and_also
left_25 n base busy place free = rw (free 79 (omega arith), base (busy ++ 79 ∷ []) (byte 2500) (free_more 79 79 busy (omega arith) free)) refl

right_25 : (n : ℕ) → Has n 78 (at_top 24) → Has (suc n) 80 (through_one 78 (at_top 24))
unfolding walked diamond at_top through_one and_also
right_25 n base busy place free = rw (free 80 (omega arith), base (busy ++ 80 ∷ []) (byte 2520) (free_more 79 80 busy (omega arith) free)) refl

top_25 : (n : ℕ) → Has n 79 (through_one 78 (at_top 24)) → Has n 80 (through_one 78 (at_top 24)) → Has (suc n) 81 (at_top 25)
unfolding walked diamond at_top through_one and_also
top_25 n left right busy place free = rw (free 81 (omega arith), left (busy ++ 81 ∷ []) (byte 2540) (free_more 80 81 busy (omega arith) free), right (busy ++ 81 ∷ []) (byte 2560) (free_more 81 81 busy (omega arith) free)) refl

left_26 : (n : ℕ) → Has n 81 (at_top 25) → Has (suc n) 82 (through_one 81 (at_top 25))
unfolding walked diamond at_top through_one and_also
left_26 n base busy place free = rw (free 82 (omega arith), base (busy ++ 82 ∷ []) (byte 2600) (free_more 82 82 busy (omega arith) free)) refl

right_26 : (n : ℕ) → Has n 81 (at_top 25) → Has (suc n) 83 (through_one 81 (at_top 25))
unfolding walked diamond at_top through_one and_also
right_26 n base busy place free = rw (free 83 (omega arith), base (busy ++ 83 ∷ []) (byte 2620) (free_more 82 83 busy (omega arith) free)) refl

top_26 : (n : ℕ) → Has n 82 (through_one 81 (at_top 25)) → Has n 83 (through_one 81 (at_top 25)) → Has (suc n) 84 (at_top 26)
unfolding walked diamond at_top through_one and_also
top_26 n left right busy place free = rw (free 84 (omega arith), left (busy ++ 84 ∷ []) (byte 2640) (free_more 83 84 busy (omega arith) free), right (busy ++ 84 ∷ []) (byte 2660) (free_more 84 84 busy (omega arith) free)) refl

left_27 : (n : ℕ) → Has n 84 (at_top 26) → Has (suc n) 85 (through_one 84 (at_top 26))
unfolding walked diamond at_top through_one and_also
left_27 n base busy place free = rw (free 85 (omega arith), base (busy ++ 85 ∷ []) (byte 2700) (free_more 85 85 busy (omega arith) free)) refl

right_27 : (n : ℕ) → Has n 84 (at_top 26) → Has (suc n) 86 (through_one 84 (at_top 26))
unfolding walked diamond at_top through_one and_also
right_27 n base busy place free = rw (free 86 (omega arith), base (busy ++ 86 ∷ []) (byte 2720) (free_more 85 86 busy (omega arith) free)) refl

top_27 : (n : ℕ) → Has n 85 (through_one 84 (at_top 26)) → Has n 86 (through_one 84 (at_top 26)) → Has (suc n) 87 (at_top 27)
unfolding walked diamond at_top through_one and_also
top_27 n left right busy place free = rw (free 87 (omega arith), left (busy ++ 87 ∷ []) (byte 2740) (free_more 86 87 busy (omega arith) free), right (busy ++ 87 ∷ []) (byte 2760) (free_more 87 87 busy (omega arith) free)) refl

left_28 : (n : ℕ) → Has n 87 (at_top 27) → Has (suc n) 88 (through_one 87 (at_top 27))
unfolding walked diamond at_top through_one and_also
left_28 n base busy place free = rw (free 88 (omega arith), base (busy ++ 88 ∷ []) (byte 2800) (free_more 88 88 busy (omega arith) free)) refl

right_28 : (n : ℕ) → Has n 87 (at_top 27) → Has (suc n) 89 (through_one 87 (at_top 27))
unfolding walked diamond at_top through_one and_also
right_28 n base busy place free = rw (free 89 (omega arith), base (busy ++ 89 ∷ []) (byte 2820) (free_more 88 89 busy (omega arith) free)) refl

top_28 : (n : ℕ) → Has n 88 (through_one 87 (at_top 27)) → Has n 89 (through_one 87 (at_top 27)) → Has (suc n) 90 (at_top 28)
unfolding walked diamond at_top through_one and_also
top_28 n left right busy place free = rw (free 90 (omega arith), left (busy ++ 90 ∷ []) (byte 2840) (free_more 89 90 busy (omega arith) free), right (busy ++ 90 ∷ []) (byte 2860) (free_more 90 90 busy (omega arith) free)) refl

left_29 : (n : ℕ) → Has n 90 (at_top 28) → Has (suc n) 91 (through_one 90 (at_top 28))
unfolding walked diamond at_top through_one and_also
left_29 n base busy place free = rw (free 91 (omega arith), base (busy ++ 91 ∷ []) (byte 2900) (free_more 91 91 busy (omega arith) free)) refl

right_29 : (n : ℕ) → Has n 90 (at_top 28) → Has (suc n) 92 (through_one 90 (at_top 28))
unfolding walked diamond at_top through_one and_also
right_29 n base busy place free = rw (free 92 (omega arith), base (busy ++ 92 ∷ []) (byte 2920) (free_more 91 92 busy (omega arith) free)) refl

top_29 : (n : ℕ) → Has n 91 (through_one 90 (at_top 28)) → Has n 92 (through_one 90 (at_top 28)) → Has (suc n) 93 (at_top 29)
unfolding walked diamond at_top through_one and_also
top_29 n left right busy place free = rw (free 93 (omega arith), left (busy ++ 93 ∷ []) (byte 2940) (free_more 92 93 busy (omega arith) free), right (busy ++ 93 ∷ []) (byte 2960) (free_more 93 93 busy (omega arith) free)) refl

left_30 : (n : ℕ) → Has n 93 (at_top 29) → Has (suc n) 94 (through_one 93 (at_top 29))
unfolding walked diamond at_top through_one and_also
left_30 n base busy place free = rw (free 94 (omega arith), base (busy ++ 94 ∷ []) (byte 3000) (free_more 94 94 busy (omega arith) free)) refl

right_30 : (n : ℕ) → Has n 93 (at_top 29) → Has (suc n) 95 (through_one 93 (at_top 29))
unfolding walked diamond at_top through_one and_also
right_30 n base busy place free = rw (free 95 (omega arith), base (busy ++ 95 ∷ []) (byte 3020) (free_more 94 95 busy (omega arith) free)) refl

top_30 : (n : ℕ) → Has n 94 (through_one 93 (at_top 29)) → Has n 95 (through_one 93 (at_top 29)) → Has (suc n) 96 (at_top 30)
unfolding walked diamond at_top through_one and_also
top_30 n left right busy place free = rw (free 96 (omega arith), left (busy ++ 96 ∷ []) (byte 3040) (free_more 95 96 busy (omega arith) free), right (busy ++ 96 ∷ []) (byte 3060) (free_more 96 96 busy (omega arith) free)) refl

left_31 : (n : ℕ) → Has n 96 (at_top 30) → Has (suc n) 97 (through_one 96 (at_top 30))
unfolding walked diamond at_top through_one and_also
left_31 n base busy place free = rw (free 97 (omega arith), base (busy ++ 97 ∷ []) (byte 3100) (free_more 97 97 busy (omega arith) free)) refl

right_31 : (n : ℕ) → Has n 96 (at_top 30) → Has (suc n) 98 (through_one 96 (at_top 30))
unfolding walked diamond at_top through_one and_also
right_31 n base busy place free = rw (free 98 (omega arith), base (busy ++ 98 ∷ []) (byte 3120) (free_more 97 98 busy (omega arith) free)) refl

top_31 : (n : ℕ) → Has n 97 (through_one 96 (at_top 30)) → Has n 98 (through_one 96 (at_top 30)) → Has (suc n) 99 (at_top 31)
unfolding walked diamond at_top through_one and_also
top_31 n left right busy place free = rw (free 99 (omega arith), left (busy ++ 99 ∷ []) (byte 3140) (free_more 98 99 busy (omega arith) free), right (busy ++ 99 ∷ []) (byte 3160) (free_more 99 99 busy (omega arith) free)) refl

left_32 : (n : ℕ) → Has n 99 (at_top 31) → Has (suc n) 100 (through_one 99 (at_top 31))
unfolding walked diamond at_top through_one and_also
left_32 n base busy place free = rw (free 100 (omega arith), base (busy ++ 100 ∷ []) (byte 3200) (free_more 100 100 busy (omega arith) free)) refl

right_32 : (n : ℕ) → Has n 99 (at_top 31) → Has (suc n) 101 (through_one 99 (at_top 31))
unfolding walked diamond at_top through_one and_also
right_32 n base busy place free = rw (free 101 (omega arith), base (busy ++ 101 ∷ []) (byte 3220) (free_more 100 101 busy (omega arith) free)) refl

top_32 : (n : ℕ) → Has n 100 (through_one 99 (at_top 31)) → Has n 101 (through_one 99 (at_top 31)) → Has (suc n) 102 (at_top 32)
unfolding walked diamond at_top through_one and_also
top_32 n left right busy place free = rw (free 102 (omega arith), left (busy ++ 102 ∷ []) (byte 3240) (free_more 101 102 busy (omega arith) free), right (busy ++ 102 ∷ []) (byte 3260) (free_more 102 102 busy (omega arith) free)) refl

-- ---- from top_0 to the top

has_top_0 : Has 39 6 (at_top 0)
has_top_0 = top_0 38

has_top_1 : Has 41 9 (at_top 1)
has_top_1 = top_1 40 (left_1 39 has_top_0) (right_1 39 has_top_0)

has_top_2 : Has 43 12 (at_top 2)
has_top_2 = top_2 42 (left_2 41 has_top_1) (right_2 41 has_top_1)

has_top_3 : Has 45 15 (at_top 3)
has_top_3 = top_3 44 (left_3 43 has_top_2) (right_3 43 has_top_2)

has_top_4 : Has 47 18 (at_top 4)
has_top_4 = top_4 46 (left_4 45 has_top_3) (right_4 45 has_top_3)

has_top_5 : Has 49 21 (at_top 5)
has_top_5 = top_5 48 (left_5 47 has_top_4) (right_5 47 has_top_4)

has_top_6 : Has 51 24 (at_top 6)
has_top_6 = top_6 50 (left_6 49 has_top_5) (right_6 49 has_top_5)

has_top_7 : Has 53 27 (at_top 7)
has_top_7 = top_7 52 (left_7 51 has_top_6) (right_7 51 has_top_6)

has_top_8 : Has 55 30 (at_top 8)
has_top_8 = top_8 54 (left_8 53 has_top_7) (right_8 53 has_top_7)

has_top_9 : Has 57 33 (at_top 9)
has_top_9 = top_9 56 (left_9 55 has_top_8) (right_9 55 has_top_8)

has_top_10 : Has 59 36 (at_top 10)
has_top_10 = top_10 58 (left_10 57 has_top_9) (right_10 57 has_top_9)

has_top_11 : Has 61 39 (at_top 11)
has_top_11 = top_11 60 (left_11 59 has_top_10) (right_11 59 has_top_10)

has_top_12 : Has 63 42 (at_top 12)
has_top_12 = top_12 62 (left_12 61 has_top_11) (right_12 61 has_top_11)

has_top_13 : Has 65 45 (at_top 13)
has_top_13 = top_13 64 (left_13 63 has_top_12) (right_13 63 has_top_12)

has_top_14 : Has 67 48 (at_top 14)
has_top_14 = top_14 66 (left_14 65 has_top_13) (right_14 65 has_top_13)

has_top_15 : Has 69 51 (at_top 15)
has_top_15 = top_15 68 (left_15 67 has_top_14) (right_15 67 has_top_14)

has_top_16 : Has 71 54 (at_top 16)
has_top_16 = top_16 70 (left_16 69 has_top_15) (right_16 69 has_top_15)

has_top_17 : Has 73 57 (at_top 17)
has_top_17 = top_17 72 (left_17 71 has_top_16) (right_17 71 has_top_16)

has_top_18 : Has 75 60 (at_top 18)
has_top_18 = top_18 74 (left_18 73 has_top_17) (right_18 73 has_top_17)

has_top_19 : Has 77 63 (at_top 19)
has_top_19 = top_19 76 (left_19 75 has_top_18) (right_19 75 has_top_18)

has_top_20 : Has 79 66 (at_top 20)
has_top_20 = top_20 78 (left_20 77 has_top_19) (right_20 77 has_top_19)

has_top_21 : Has 81 69 (at_top 21)
has_top_21 = top_21 80 (left_21 79 has_top_20) (right_21 79 has_top_20)

has_top_22 : Has 83 72 (at_top 22)
has_top_22 = top_22 82 (left_22 81 has_top_21) (right_22 81 has_top_21)

has_top_23 : Has 85 75 (at_top 23)
has_top_23 = top_23 84 (left_23 83 has_top_22) (right_23 83 has_top_22)

has_top_24 : Has 87 78 (at_top 24)
has_top_24 = top_24 86 (left_24 85 has_top_23) (right_24 85 has_top_23)

has_top_25 : Has 89 81 (at_top 25)
has_top_25 = top_25 88 (left_25 87 has_top_24) (right_25 87 has_top_24)

has_top_26 : Has 91 84 (at_top 26)
has_top_26 = top_26 90 (left_26 89 has_top_25) (right_26 89 has_top_25)

has_top_27 : Has 93 87 (at_top 27)
has_top_27 = top_27 92 (left_27 91 has_top_26) (right_27 91 has_top_26)

has_top_28 : Has 95 90 (at_top 28)
has_top_28 = top_28 94 (left_28 93 has_top_27) (right_28 93 has_top_27)

has_top_29 : Has 97 93 (at_top 29)
has_top_29 = top_29 96 (left_29 95 has_top_28) (right_29 95 has_top_28)

has_top_30 : Has 99 96 (at_top 30)
has_top_30 = top_30 98 (left_30 97 has_top_29) (right_30 97 has_top_29)

has_top_31 : Has 101 99 (at_top 31)
has_top_31 = top_31 100 (left_31 99 has_top_30) (right_31 99 has_top_30)

has_top_32 : Has 103 102 (at_top 32)
has_top_32 = top_32 102 (left_32 101 has_top_31) (right_32 101 has_top_31)

abbrev names : Outcome (List Member) → Outcome (List (List ℕ))
names outcome = and_then outcome (λ members. Ok (map (λ member. member.name) members))

-- The class at the top of 32 levels has one element.
pub diamond_has_one_element : names (elements_of diamond (plain 102)) ≡ Ok (codes "x" ∷ [])
unfolding diamond at_top through_one and_also
diamond_has_one_element = ap (λ (o : Outcome Walked). names (and_then o (λ walked. Ok (members_in walked)))) (has_top_32 [] (record { file = 0; byte = 0 }) (λ n below. refl))
