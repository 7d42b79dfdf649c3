pub mod PlanTexts
