mod OneItem
