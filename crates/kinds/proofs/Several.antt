-- The next answers that a function's proof takes, at once: `next6 f (omega arith)` gives f the next six, each of which is arithmetic.
-- Assumes nothing.

pub next2 : {A B : Type 0} {Rest : Type 2} → (A → B → Rest) → A × B → Rest
next2 f p = f p.0 p.1

pub next3 : {A B C : Type 0} {Rest : Type 2} → (A → B → C → Rest) → A × B × C → Rest
next3 f p = f p.0 p.1 p.2

pub next4 : {A B C D : Type 0} {Rest : Type 2} → (A → B → C → D → Rest) → A × B × C × D → Rest
next4 f p = f p.0 p.1 p.2 p.3

pub next5 : {A B C D E : Type 0} {Rest : Type 2} → (A → B → C → D → E → Rest) → A × B × C × D × E → Rest
next5 f p = f p.0 p.1 p.2 p.3 p.4

pub next6 : {A B C D E F : Type 0} {Rest : Type 2} → (A → B → C → D → E → F → Rest) → A × B × C × D × E × F → Rest
next6 f p = f p.0 p.1 p.2 p.3 p.4 p.5

pub next7 : {A B C D E F G : Type 0} {Rest : Type 2} → (A → B → C → D → E → F → G → Rest) → A × B × C × D × E × F × G → Rest
next7 f p = f p.0 p.1 p.2 p.3 p.4 p.5 p.6

pub next8 : {A B C D E F G H : Type 0} {Rest : Type 2} → (A → B → C → D → E → F → G → H → Rest) → A × B × C × D × E × F × G × H → Rest
next8 f p = f p.0 p.1 p.2 p.3 p.4 p.5 p.6 p.7

pub next9 : {A B C D E F G H I : Type 0} {Rest : Type 2} → (A → B → C → D → E → F → G → H → I → Rest) → A × B × C × D × E × F × G × H × I → Rest
next9 f p = f p.0 p.1 p.2 p.3 p.4 p.5 p.6 p.7 p.8

pub next10 : {A B C D E F G H I J : Type 0} {Rest : Type 2} → (A → B → C → D → E → F → G → H → I → J → Rest) → A × B × C × D × E × F × G × H × I × J → Rest
next10 f p = f p.0 p.1 p.2 p.3 p.4 p.5 p.6 p.7 p.8 p.9
