pub mod RecurrenceRules
pub mod AllowedRules
pub mod RecurrenceSets
pub mod RuleTexts
pub mod RulePrints
pub mod Steps
